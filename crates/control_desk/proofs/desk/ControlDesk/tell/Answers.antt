use Rattle.std.proofs.Common.{◌≡◌, subst, sym}
use Rattle.control_flags.specs.declared.place.ControlPlace.{ControlPlace}
use Rattle.control_flags.specs.declared.place.ControlPlace.TheVariants.{History}
use Rattle.control_desk.specs.Asked.{call_asked}
use Rattle.control_desk.specs.Desk.{Answered, hindered, page_view}
use Rattle.control_desk.specs.Rules.{rules_view}
use Rattle.control_desk.proofs.desk.ControlDesk.tell.Goals as goal

-- what was applied is told, whatever else was asked
pub returns-in_ok-tell_history-in-History-clause-ok : goal.returns-in_ok-tell_history-in-History-clause-ok
returns-in_ok-tell_history-in-History-clause-ok g c =
    let self = c.args.self.now in
    let new = c.tell_history.new.self in
    let asked = call_asked c.args.request.now in
    let is : c.args.place ≡ History = c.in-History.is in
    subst (λ (p : ControlPlace). Answered (g.F.DeskFiles.naming self.files) (g.F.DeskFiles.holding self.files) (g.F.DeskFiles.holding new.files) (hindered (g.F.DeskFiles.faults self.files) self.met) (hindered (g.F.DeskFiles.faults new.files) new.met) (rules_view self.post.now.rules) (page_view self.page) self.seat new.seat asked c.tell_history.new.response p) (sym is)
    (c.in_ok-tell_history-in-History.ensures.ok asked)
