use Rattle.std.proofs.Common.{◌≡◌, ◌∙◌, ◌⊎◌, ℕ, List, Option, Some, ap, option_map, string_bytes, subst, sym}
use Rattle.std.specs.Prelude.{OnOk}
use Rattle.std.specs.declared.alloc.Global.{Global}
use Rattle.control_desk.specs.Asked.{call_asked}
use Rattle.control_desk.specs.Desk.{IsPutOff, RespondsRecorded, hindered, page_view}
use Rattle.control_desk.specs.Rules.{rules_view}
use Rattle.control_desk.proofs.desk.ControlDesk.tell_recorded.Goals as goal

-- the logs are those of the folder that is named
pub returns-clause-ok : goal.returns-clause-ok
returns-clause-ok g c =
    let self = c.args.self.now in
    let new = c.take_turn.new.self in
    let naming = g.F.DeskFiles.naming self.files in
    let before = g.F.DeskFiles.holding self.files in
    let after = g.F.DeskFiles.holding new.files in
    let had = hindered (g.F.DeskFiles.faults self.files) self.met in
    let has = hindered (g.F.DeskFiles.faults new.files) new.met in
    let rules = rules_view self.post.now.rules in
    let page = page_view self.page in
    let asked = call_asked c.args.request.now in
    let response = c.take_turn.new.response in
    let named : Some c.as_str.result.now ≡ option_map (string_bytes {Z = Global}) self.post.now.rules.folder = ap Some c.as_str.ensures.value ∙ sym (ap (option_map (string_bytes {Z = Global})) c.in-Some.is) in
    subst (λ (folder : Option (List ℕ)). OnOk c.take_turn.result (IsPutOff naming before after had has rules page self.seat new.seat asked response ⊎ RespondsRecorded naming before after had has rules page self.seat new.seat asked response c.args.place folder)) named c.take_turn.ensures.ok
