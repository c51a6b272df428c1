use Rattle.std.specs.Prelude.{◌≡◌, All, vec_len}
use Rattle.snap_share.proofs.sharing.seated.Given as goal

abbrev pub invariant-loop-seat : goal.invariant-loop-seat
invariant-loop-seat g l = (vec_len l.all ≡ l._seat) × All (λ s. s.known ≡ l.known) l.all.items
