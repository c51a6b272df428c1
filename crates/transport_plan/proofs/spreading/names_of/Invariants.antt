use Rattle.std.proofs.Common.{◌≡◌, take}
use Rattle.std.specs.Map.{keys_of}
use Rattle.bucket_core.specs.Rule.{names_view}
use Rattle.price_core.specs.Limits.{limits_view}
use Rattle.transport_plan.proofs.spreading.names_of.Given as goal

abbrev pub invariant-loop-limit : goal.invariant-loop-limit
invariant-loop-limit l = names_view l.names.items ≡ keys_of (limits_view (take l.limit-index l.limits))
