-- The points of the prefix are of the group.
use Rattle.std.proofs.Common.{◌≡◌, ◌==◌, ◌<◌, ℕ, List, get_or, arith}
use Rattle.std.specs.List.{prefix_len}
use Rattle.std.proofs.lemmas.Bool.{eqb-true}
use Rattle.std.proofs.lemmas.List.Sums.{prefix_len_passes}
use Rattle.transport_plan.proofs.stretches.Stretch.first.Goals as goal

same : (points : List ℕ) (group n q : ℕ) → n ≡ prefix_len (λ p. p == group) points → q < n → get_or points q 0 ≡ group
same points group n q is below = eqb-true (get_or points q 0) group (prefix_len_passes (λ p. p == group) points q 0 (omega (arith, is, below)))

pub returns-then-many-points-clause-same : goal.returns-then-many-points-clause-same
returns-then-many-points-clause-same c = λ q below. same c.args.points.now (get_or c.args.points.now 0 0) c.run_len-many.result q c.run_len-many.ensures.value below

pub returns-else-many-points-clause-same : goal.returns-else-many-points-clause-same
returns-else-many-points-clause-same c = λ q below. same c.args.points.now (get_or c.args.points.now 0 0) c.run_len-many.result q c.run_len-many.ensures.value below
