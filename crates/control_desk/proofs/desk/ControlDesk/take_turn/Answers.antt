use Rattle.std.proofs.Common.{◌⊎◌, Some, arith}
use Rattle.std.proofs.lemmas.Result.{on_ok_weaker}
use Rattle.control_desk.specs.Asked.{call_asked}
use Rattle.control_desk.specs.Desk.{IsPutOff, RespondsRecorded, hindered, page_view}
use Rattle.control_desk.specs.Rules.{rules_view}
use Rattle.control_desk.proofs.Since.{since}
use Rattle.control_desk.proofs.desk.ControlDesk.take_turn.Goals as goal

-- what is told in the desk's turn is told since it was waited for
pub returns-clause-ok : goal.returns-clause-ok
returns-clause-ok g c =
    let self = c.args.self.now in
    let new = c.tell_in_turn.new.self in
    let naming = g.F.DeskFiles.naming self.files in
    let before = g.F.DeskFiles.holding self.files in
    let after = g.F.DeskFiles.holding new.files in
    let had = hindered (g.F.DeskFiles.faults self.files) self.met in
    let mid = hindered (g.F.DeskFiles.faults self.files) c.take.new.met in
    let has = hindered (g.F.DeskFiles.faults new.files) new.met in
    let rules = rules_view self.post.now.rules in
    let page = page_view self.page in
    let asked = call_asked c.args.request.now in
    let response = c.tell_in_turn.new.response in
    let folder = Some c.args.folder.now in
    on_ok_weaker c.tell_in_turn.result
    (λ (told : IsPutOff naming before after mid has rules page self.seat new.seat asked response ⊎ RespondsRecorded naming before after mid has rules page self.seat new.seat asked response c.args.place folder).
    since naming before after had mid has rules page self.seat new.seat asked response (omega arith) c.take.ensures.grows c.args.place folder told)
    c.tell_in_turn.ensures.ok
