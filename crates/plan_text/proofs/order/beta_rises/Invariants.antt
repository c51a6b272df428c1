use Rattle.std.proofs.Common.{◌≡◌, length}
use Rattle.std.specs.Cmp.Lexicographic.{slice_cmp}
use Rattle.std.specs.Map.{keys_of}
use Rattle.std.specs.Ordering.{nat_cmp}
use Rattle.transport_core.specs.Certificate.{beta_view}
use Rattle.plan_text.specs.PlanFile.{rises}
use Rattle.plan_text.proofs.order.beta_rises.Given as goal

abbrev pub invariant-loop-rest : goal.invariant-loop-rest
invariant-loop-rest l = rises (slice_cmp nat_cmp) (keys_of (beta_view l.rest)) ≡ rises (slice_cmp nat_cmp) (keys_of (beta_view l.beta))

abbrev pub decreases-loop-rest : goal.decreases-loop-rest
decreases-loop-rest l = length l.rest
