use Rattle.std.proofs.Common.{◌≡◌, ◌∙◌, ℕ, List, ap, map, refl, string_bytes, subst, sym}
use Rattle.std.specs.Prelude.{OnOk}
use Rattle.std.proofs.lemmas.Result.{on_ok_weaker}
use Rattle.control_flags.specs.declared.place.ControlPlace.{ControlPlace}
use Rattle.control_flags.specs.declared.place.ControlPlace.TheVariants.{Flags, Plan, Check}
use Rattle.note_streams.specs.LogLines.{files_view}
use Rattle.control_desk.specs.Asked.{call_asked}
use Rattle.control_desk.specs.Bodies.{TellsCheck, TellsFlagsOn, TellsPlan}
use Rattle.control_desk.specs.Desk.{RespondsOn, hindered, page_view}
use Rattle.control_desk.specs.Held.{held_view, numbered_of}
use Rattle.control_desk.specs.Logs.{bytes_of, passed_by}
use Rattle.control_desk.specs.Rules.{rules_view}
use Rattle.control_desk.specs.declared.logs.HeldLog.{HeldLog}
use Rattle.control_desk.proofs.desk.ControlDesk.tell_on.Goals as goal

-- the flags are told with what the logs hold
pub returns-in-Flags-clause-ok : goal.returns-in-Flags-clause-ok
returns-in-Flags-clause-ok g c =
    let self = c.args.self.now in
    let held = c.args.held.now in
    let logs = c.args.logs.now in
    let rules = rules_view self.post.now.rules in
    let response = c.tell_flags_on.new.response in
    let before = g.F.DeskFiles.holding self.files in
    let had = hindered (g.F.DeskFiles.faults self.files) self.met in
    let is : c.args.place ≡ Flags = c.in-Flags.is in
    let files : files_view c.as_slice-files.result.now ≡ bytes_of logs =
    ap files_view c.as_slice-files.ensures.value ∙ (c.in_ok-files.ensures ∙ ap (map (λ (log : HeldLog). log.bytes.items)) c.as_slice.ensures.value) in
    let told = subst (λ (fs : List (List ℕ)). OnOk c.tell_flags_on.result (TellsFlagsOn rules (numbered_of held) fs response)) files c.tell_flags_on.ensures in
    subst (λ (p : ControlPlace). OnOk c.tell_flags_on.result (RespondsOn (g.F.DeskFiles.naming self.files) before before had had rules (page_view self.page) self.seat self.seat (call_asked c.args.request.now) response p c.args.folder.now (numbered_of held) (string_bytes held.document) (bytes_of logs) (passed_by logs))) (sym is)
    (on_ok_weaker c.tell_flags_on.result (λ (t : TellsFlagsOn rules (numbered_of held) (bytes_of logs) response). (t, refl)) told)

-- the plan of what was sent is told
pub returns-in-Plan-clause-ok : goal.returns-in-Plan-clause-ok
returns-in-Plan-clause-ok g c =
    let self = c.args.self.now in
    let held = c.args.held.now in
    let logs = c.args.logs.now in
    let asked = call_asked c.args.request.now in
    let response = c.tell_plan.new.response in
    let before = g.F.DeskFiles.holding self.files in
    let had = hindered (g.F.DeskFiles.faults self.files) self.met in
    let is : c.args.place ≡ Plan = c.in-Plan.is in
    let body : c.as_slice-body.result.now ≡ asked.body = c.as_slice-body.ensures ∙ c.body.ensures in
    let passed : map string_bytes c.as_slice-passed_over.result.now ≡ passed_by logs = ap (map string_bytes) c.as_slice-passed_over.ensures.value in
    let files : files_view c.as_slice-files.result.now ≡ bytes_of logs =
    ap files_view c.as_slice-files.ensures.value ∙ (c.in_ok-files.ensures ∙ ap (map (λ (log : HeldLog). log.bytes.items)) c.as_slice.ensures.value) in
    let told =
    subst (λ (fs : List (List ℕ)). OnOk c.tell_plan.result (TellsPlan asked.body (passed_by logs) (held_view held) fs response)) files
    (subst (λ (ps : List (List ℕ)). OnOk c.tell_plan.result (TellsPlan asked.body ps (held_view held) (files_view c.as_slice-files.result.now) response)) passed
    (subst (λ (b : List ℕ). OnOk c.tell_plan.result (TellsPlan b (map string_bytes c.as_slice-passed_over.result.now) (held_view held) (files_view c.as_slice-files.result.now) response)) body c.tell_plan.ensures)) in
    subst (λ (p : ControlPlace). OnOk c.tell_plan.result (RespondsOn (g.F.DeskFiles.naming self.files) before before had had (rules_view self.post.now.rules) (page_view self.page) self.seat self.seat asked response p c.args.folder.now (numbered_of held) (string_bytes held.document) (bytes_of logs) (passed_by logs))) (sym is)
    (on_ok_weaker c.tell_plan.result (λ (t : TellsPlan asked.body (passed_by logs) (held_view held) (bytes_of logs) response). (t, refl)) told)

-- whether the plan that was sent is right is told
pub returns-in-Check-clause-ok : goal.returns-in-Check-clause-ok
returns-in-Check-clause-ok g c =
    let self = c.args.self.now in
    let held = c.args.held.now in
    let logs = c.args.logs.now in
    let asked = call_asked c.args.request.now in
    let response = c.tell_check.new.response in
    let before = g.F.DeskFiles.holding self.files in
    let had = hindered (g.F.DeskFiles.faults self.files) self.met in
    let is : c.args.place ≡ Check = c.in-Check.is in
    let body : c.as_slice-body.result.now ≡ asked.body = c.as_slice-body.ensures ∙ c.body.ensures in
    let passed : map string_bytes c.as_slice-passed_over.result.now ≡ passed_by logs = ap (map string_bytes) c.as_slice-passed_over.ensures.value in
    let files : files_view c.as_slice-files.result.now ≡ bytes_of logs =
    ap files_view c.as_slice-files.ensures.value ∙ (c.in_ok-files.ensures ∙ ap (map (λ (log : HeldLog). log.bytes.items)) c.as_slice.ensures.value) in
    let told =
    subst (λ (fs : List (List ℕ)). OnOk c.tell_check.result (TellsCheck asked.body (passed_by logs) (held_view held) fs response)) files
    (subst (λ (ps : List (List ℕ)). OnOk c.tell_check.result (TellsCheck asked.body ps (held_view held) (files_view c.as_slice-files.result.now) response)) passed
    (subst (λ (b : List ℕ). OnOk c.tell_check.result (TellsCheck b (map string_bytes c.as_slice-passed_over.result.now) (held_view held) (files_view c.as_slice-files.result.now) response)) body c.tell_check.ensures)) in
    subst (λ (p : ControlPlace). OnOk c.tell_check.result (RespondsOn (g.F.DeskFiles.naming self.files) before before had had (rules_view self.post.now.rules) (page_view self.page) self.seat self.seat asked response p c.args.folder.now (numbered_of held) (string_bytes held.document) (bytes_of logs) (passed_by logs))) (sym is)
    (on_ok_weaker c.tell_check.result (λ (t : TellsCheck asked.body (passed_by logs) (held_view held) (bytes_of logs) response). (t, refl)) told)
