use Rattle.std.proofs.Common.{◌≡◌, [], Option, Bor, ap, inr, subst}
use Rattle.std.specs.Prelude.{IfSome}
use Rattle.control_flags.specs.Sites.{Recorded}
use Rattle.control_desk.specs.Bodies.{TellsFlags}
use Rattle.control_desk.specs.Held.{ReadsLast, numbered_of}
use Rattle.control_desk.specs.Rules.{Rules, rules_view}
use Rattle.control_desk.specs.declared.held.HeldSnapshot.{HeldSnapshot}
use Rattle.control_desk.specs.declared.post.DeskPost.{DeskPost}
use Rattle.control_desk.proofs.desk.ControlDesk.tell_flags_alone.Goals as goal

-- the flags of the snapshot that was read are told
pub returns-clause-ok : goal.returns-clause-ok
returns-clause-ok g c =
    let held = c.in-Some.held in
    let old = c.args.self.now in
    let new = c.hold.new.self in
    let s = numbered_of held in
    let response = c.tell_flags.new.response in
    let read : ReadsLast old.seat s new.seat = subst (λ (o : Option HeldSnapshot). IfSome o (λ h. ReadsLast old.seat (numbered_of h) new.seat)) c.in-Some.is c.in_ok-held.ensures.read in
    let rules : rules_view new.post.now.rules ≡ rules_view old.post.now.rules = ap (λ (p : Bor DeskPost). rules_view p.now.rules) c.hold.ensures.post in
    inr (
      s,
      read,
      subst (λ (r : Rules). TellsFlags r s [] response) rules
          (subst (λ (recorded : Recorded). TellsFlags (rules_view new.post.now.rules) s recorded response) c.new-none.ensures.empty c.in_ok-tell_flags.ensures),
    )
