use Rattle.std.proofs.Common.{◌≡◌, ℕ, List, Result, codes, inr, map, rules, string_bytes, subst}
use Rattle.std.specs.Prelude.{OnOk, Vec}
use Rattle.std.specs.declared.alloc.Global.{Global}
use Rattle.std.proofs.lemmas.Result.{on_ok_weaker}
use Rattle.flag_defs.specs.Document.{Definitions}
use Rattle.flag_defs.specs.Flags.{flags_view}
use Rattle.http_server.specs.Response.{IsResponse}
use Rattle.note_streams.specs.LogLines.{files_view}
use Rattle.control_answers.specs.Check.{IsCheckAnswer}
use Rattle.control_answers.specs.declared.refusal.ControlRefusal.{ControlRefusal}
use Rattle.control_desk.specs.Bodies.{IsPair, TellsObject, with_passed_over}
use Rattle.control_desk.specs.Held.{held_view}
use Rattle.control_desk.specs.Sent.{type_field}
use Rattle.control_desk.specs.declared.giving.Media.TheVariants.{Json}
use Rattle.control_desk.proofs.Outcomes.{given, refused}
use Rattle.control_desk.proofs.telling.tell_check.Goals as goal

-- that the plan is right is told
pub returns-in-Ok : goal.returns-in-Ok
returns-in-Ok c =
    let plan = c.in-Some.plan.now in
    let request = c.in-Some.request.now in
    let pair : IsPair c.args.body.now plan request = search rules in
    let passed = map string_bytes c.args.passed_over.now in
    let files = files_view c.args.files.now in
    let response = c.tell_object.new.response in
    let flags : flags_view c.flags.result.now ≡ (held_view c.args.held.now).flags = c.flags.ensures in
    let told : OnOk c.tell_object.result (IsResponse 200 (type_field Json) (with_passed_over passed (string_bytes c.in-Ok.text)) response) =
    subst (λ (v : Vec ℕ Global). OnOk c.tell_object.result (IsResponse 200 (type_field Json) (with_passed_over passed v.items) response)) c.into_bytes.ensures.value c.tell_object.ensures in
    on_ok_weaker c.tell_object.result
    (λ (answer : (r : Result (List ℕ) ControlRefusal) × IsCheckAnswer (held_view c.args.held.now).flags request plan files r × TellsObject (codes "verify") passed r response). inr (plan, request, pair, answer))
    (subst (λ (f : Definitions). OnOk c.tell_object.result ((r : Result (List ℕ) ControlRefusal) × IsCheckAnswer f request plan files r × TellsObject (codes "verify") passed r response)) flags
    (given (string_bytes {Z = Global}) (IsCheckAnswer (flags_view c.flags.result.now) request plan files) (λ (r : Result (List ℕ) ControlRefusal). TellsObject (codes "verify") passed r response) c.tell_object.result c.in-Ok.text c.in-Ok.ensures.exact told))

-- its refusal is told
pub returns-in-Err : goal.returns-in-Err
returns-in-Err c =
    let plan = c.in-Some.plan.now in
    let request = c.in-Some.request.now in
    let pair : IsPair c.args.body.now plan request = search rules in
    let passed = map string_bytes c.args.passed_over.now in
    let files = files_view c.args.files.now in
    let told = c.tell_refusal-in-Err in
    let response = told.new.response in
    let flags : flags_view c.flags.result.now ≡ (held_view c.args.held.now).flags = c.flags.ensures in
    on_ok_weaker told.result
    (λ (answer : (r : Result (List ℕ) ControlRefusal) × IsCheckAnswer (held_view c.args.held.now).flags request plan files r × TellsObject (codes "verify") passed r response). inr (plan, request, pair, answer))
    (subst (λ (f : Definitions). OnOk told.result ((r : Result (List ℕ) ControlRefusal) × IsCheckAnswer f request plan files r × TellsObject (codes "verify") passed r response)) flags
    (refused (string_bytes {Z = Global}) (IsCheckAnswer (flags_view c.flags.result.now) request plan files) (λ (r : Result (List ℕ) ControlRefusal). TellsObject (codes "verify") passed r response) told.result c.in-Err.refusal c.in-Err.ensures.exact told.ensures.refusal told.ensures.known))
