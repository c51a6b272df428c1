use Rattle.std.proofs.Common.{◌≡◌, length}
use Rattle.std.specs.Map.{keys_of}
use Rattle.transport_core.specs.Certificate.{alpha_view}
use Rattle.transport_core.specs.Groups.{group_cmp}
use Rattle.plan_text.specs.PlanFile.{rises}
use Rattle.plan_text.proofs.order.alpha_rises.Given as goal

abbrev pub invariant-loop-rest : goal.invariant-loop-rest
invariant-loop-rest l = rises group_cmp (keys_of (alpha_view l.rest)) ≡ rises group_cmp (keys_of (alpha_view l.alpha))

abbrev pub decreases-loop-rest : goal.decreases-loop-rest
decreases-loop-rest l = length l.rest
