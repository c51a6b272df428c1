use Rattle.std.proofs.Common.{◌≡◌, ◌∙◌, ℕ, List, Option, Some, ap, option_map, string_bytes, subst, sym}
use Rattle.std.specs.Prelude.{OnOk}
use Rattle.note_streams.specs.LogLines.{files_view}
use Rattle.control_desk.specs.Apply.{TellsApply}
use Rattle.control_desk.specs.Asked.{call_asked}
use Rattle.control_desk.specs.Desk.{RespondsApplied, hindered, page_view}
use Rattle.control_desk.specs.Held.{held_view}
use Rattle.control_desk.specs.Rules.{rules_view}
use Rattle.control_desk.proofs.desk.ControlDesk.tell_applied.Goals as goal

-- it is applied to the document that is named
pub returns-clause-ok : goal.returns-clause-ok
returns-clause-ok g c =
    let self = c.args.self.now in
    let naming = g.F.DeskFiles.naming self.files in
    let before = g.F.DeskFiles.holding self.files in
    let after = g.F.DeskFiles.holding c.apply.new.files in
    let had = hindered (g.F.DeskFiles.faults self.files) self.met in
    let has = hindered (g.F.DeskFiles.faults c.apply.new.files) self.met in
    let asked = call_asked c.args.request.now in
    let folder = c.args.folder.now in
    let held = held_view c.args.held.now in
    let files = files_view c.args.logs.now in
    let response = c.apply.new.response in
    let named : Some (string_bytes c.in-Some.path) ≡ option_map string_bytes self.post.now.rules.applied_to = sym (ap (option_map string_bytes) c.in-Some.is) in
    let sent : c.as_slice-token.result.now ≡ asked.body = c.as_slice-token.ensures ∙ c.body.ensures in
    subst (λ (path : Option (List ℕ)). OnOk c.apply.result (RespondsApplied naming before after had has (rules_view self.post.now.rules) (page_view self.page) self.seat self.seat asked response path folder held files)) named
    (subst (λ (path : List ℕ). OnOk c.apply.result (TellsApply folder path asked.asker asked.body held files before after had.faults has.faults response)) c.as_str.ensures.value
    (subst (λ (asker : List ℕ). OnOk c.apply.result (TellsApply folder c.as_str.result.now asker asked.body held files before after had.faults has.faults response)) c.asker_of.ensures
    (subst (λ (token : List ℕ). OnOk c.apply.result (TellsApply folder c.as_str.result.now c.asker_of.result.now token held files before after had.faults has.faults response)) sent c.apply.ensures.ok)))
