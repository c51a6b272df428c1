use Rattle.std.proofs.Common.{ℕ, List, Result, codes, string_bytes, subst}
use Rattle.std.specs.Prelude.{OnOk}
use Rattle.std.specs.declared.alloc.Global.{Global}
use Rattle.flag_defs.specs.Document.{Definitions}
use Rattle.flag_defs.specs.Flags.{flags_view}
use Rattle.http_server.specs.Response.{fields_of}
use Rattle.note_streams.specs.LogLines.{files_view}
use Rattle.control_answers.specs.Record.{IsRecordAnswer}
use Rattle.control_answers.specs.declared.refusal.ControlRefusal.{ControlRefusal}
use Rattle.control_desk.specs.Bodies.{Tells}
use Rattle.control_desk.specs.Held.{held_view}
use Rattle.control_desk.specs.Sent.{type_field}
use Rattle.control_desk.specs.declared.giving.Media.TheVariants.{Lines}
use Rattle.control_desk.proofs.Filled.{filled}
use Rattle.control_desk.proofs.Outcomes.{given, refused}
use Rattle.control_desk.proofs.telling.tell_tally.Goals as goal

-- the tally is told
pub returns-in-Ok : goal.returns-in-Ok
returns-in-Ok c =
    let key = c.as_str.result.now in
    let site = c.args.asked.now.site in
    let files = files_view c.args.files.now in
    let response = c.finish.new.response in
    let told = filled c.finish.result 200 (fields_of c.args.response.now) (type_field Lines) c.as_bytes.result.now (string_bytes c.in-Ok.text) response c.requires.headers c.as_bytes.ensures.value c.finish.ensures in
    subst (λ (k : List ℕ). OnOk c.finish.result ((r : Result (List ℕ) ControlRefusal) × IsRecordAnswer (held_view c.args.held.now).flags k site files r × Tells (codes "tally") Lines r response)) c.as_str.ensures.value
    (subst (λ (flags : Definitions). OnOk c.finish.result ((r : Result (List ℕ) ControlRefusal) × IsRecordAnswer flags key site files r × Tells (codes "tally") Lines r response)) c.flags-flags.ensures
    (given (string_bytes {Z = Global}) (IsRecordAnswer (flags_view c.flags-flags.result.now) key site files) (λ (r : Result (List ℕ) ControlRefusal). Tells (codes "tally") Lines r response) c.finish.result c.in-Ok.text c.in-Ok.ensures.exact told))

-- its refusal is told
pub returns-in-Err : goal.returns-in-Err
returns-in-Err c =
    let key = c.as_str.result.now in
    let site = c.args.asked.now.site in
    let files = files_view c.args.files.now in
    let response = c.tell_refusal.new.response in
    subst (λ (k : List ℕ). OnOk c.tell_refusal.result ((r : Result (List ℕ) ControlRefusal) × IsRecordAnswer (held_view c.args.held.now).flags k site files r × Tells (codes "tally") Lines r response)) c.as_str.ensures.value
    (subst (λ (flags : Definitions). OnOk c.tell_refusal.result ((r : Result (List ℕ) ControlRefusal) × IsRecordAnswer flags key site files r × Tells (codes "tally") Lines r response)) c.flags-flags.ensures
    (refused (string_bytes {Z = Global}) (IsRecordAnswer (flags_view c.flags-flags.result.now) key site files) (λ (r : Result (List ℕ) ControlRefusal). Tells (codes "tally") Lines r response) c.tell_refusal.result c.in-Err.refusal c.in-Err.ensures.exact c.tell_refusal.ensures.refusal c.tell_refusal.ensures.known))
