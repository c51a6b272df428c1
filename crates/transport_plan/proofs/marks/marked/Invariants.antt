use Rattle.std.proofs.Common.{◌≡◌, false, get_or, take}
use Rattle.std.specs.Map.{keys_of}
use Rattle.bucket_core.specs.Rule.{names_view}
use Rattle.price_core.specs.Limits.{limits_view}
use Rattle.transport_plan.specs.Chosen.{chosen}
use Rattle.transport_plan.proofs.marks.marked.Given as goal

abbrev pub invariant-loop-place : goal.invariant-loop-place
invariant-loop-place l = names_view l.names.items ≡ chosen (take l.place (keys_of (limits_view l.limits))) (λ v. get_or l.marks v false)
