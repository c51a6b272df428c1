use Rattle.std.proofs.Common.{◌≡◌, ◌∙◌, ◌⊎◌, ℕ, List, Option, Some, ap, option_map, string_bytes, subst, sym}
use Rattle.std.specs.Prelude.{OnOk}
use Rattle.std.specs.declared.alloc.Global.{Global}
use Rattle.control_desk.specs.Asked.{call_asked}
use Rattle.control_desk.specs.Desk.{IsPutOff, RespondsFlags, hindered, page_view}
use Rattle.control_desk.specs.Rules.{rules_view}
use Rattle.control_desk.proofs.desk.ControlDesk.tell_flags.Goals as goal

-- what is recorded of their sites is told by the logs of the folder that is named
pub returns-in-Some-clause-ok : goal.returns-in-Some-clause-ok
returns-in-Some-clause-ok g c =
    let self = c.args.self.now in
    let new = c.take_turn.new.self in
    let naming = g.F.DeskFiles.naming self.files in
    let before = g.F.DeskFiles.holding self.files in
    let after = g.F.DeskFiles.holding new.files in
    let had = hindered (g.F.DeskFiles.faults self.files) self.met in
    let has = hindered (g.F.DeskFiles.faults new.files) new.met in
    let rules = rules_view self.post.now.rules in
    let page = page_view self.page in
    let asked = call_asked c.args.request.now in
    let response = c.take_turn.new.response in
    let named : Some c.as_str.result.now ≡ option_map (string_bytes {Z = Global}) self.post.now.rules.folder = ap Some c.as_str.ensures.value ∙ sym (ap (option_map (string_bytes {Z = Global})) c.in-Some.is) in
    subst (λ (folder : Option (List ℕ)). OnOk c.take_turn.result (IsPutOff naming before after had has rules page self.seat new.seat asked response ⊎ RespondsFlags naming before after had has rules page self.seat new.seat asked response folder)) named c.take_turn.ensures.ok
