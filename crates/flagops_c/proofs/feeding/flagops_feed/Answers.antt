use Rattle.std.proofs.Common.{◌≡◌, Option, Some, false, IfSome, ap, subst, ◌∙◌}
use Rattle.library_seat.specs.Feeding.{Heard, IsIdle}
use Rattle.library_seat.specs.declared.seat.Seat.{Seat}
use Rattle.flagops_c.specs.Calls.{standing}
use Rattle.flagops_c.proofs.Called.{succeeded}
use Rattle.flagops_c.proofs.feeding.flagops_feed.Goals as goal

pub returns-clause-idle : goal.returns-clause-idle
returns-clause-idle c =
    let was : Some c.deref_mut.result.now ≡ c.args.handle.now.seat = ap Some c.deref_mut.ensures.value ∙ c.in-Some.ensures.taken in
    subst (λ (held : Option Seat). IfSome (standing held) (λ s. IsIdle c.args.piece.now s.connection →
    (c.number_of.result ≡ 0) × (standing c.hold.new.self.seat ≡ Some s) × (c.feed-fed.new.number ≡ c.args.number.now) × (c.feed-fed.new.came ≡ false))) was
    (λ i. let said = c.feed-fed.ensures.idle i in (
      succeeded c.feed-fed.result c.number_of.result c.number_of.ensures said.0,
      ap standing c.hold.ensures ∙ ap (λ (h : Heard). Some h.seat) said.1,
      ap (λ (h : Heard). h.number) said.1,
      ap (λ (h : Heard). h.came) said.1,
    ))
