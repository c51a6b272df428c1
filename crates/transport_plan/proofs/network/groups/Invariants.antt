use Rattle.std.proofs.Common.{take}
use Rattle.std.specs.Map.{keys_of}
use Rattle.price_core.specs.Limits.{limits_view}
use Rattle.transport_core.specs.Groups.{rows_view}
use Rattle.transport_plan.specs.Network.{AreGroups}
use Rattle.transport_plan.proofs.network.groups.Given as goal

abbrev pub invariant-loop-name : goal.invariant-loop-name
invariant-loop-name l = AreGroups (keys_of (limits_view l.limits)) (rows_view (take l.name-index l.rows)) l.groups.items
