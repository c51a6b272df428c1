use Rattle.std.proofs.Common.{◌≡◌, ◌++◌, drop}
use Rattle.std.specs.Map.{keys_of}
use Rattle.price_core.specs.Limits.{limits_view}
use Rattle.transport_core.specs.Assignment.{assigned_view, arc_flows, flows_of}
use Rattle.transport_core.specs.Groups.{rows_view}
use Rattle.transport_core.proofs.assignment.Assignment.rows.Given as goal

-- what is given, with the rest, is the whole
abbrev pub invariant-loop-group : goal.invariant-loop-group
invariant-loop-group l =
    assigned_view l.rows.items ++ arc_flows (keys_of (rows_view (drop l.group-index l.group-items))) (keys_of (limits_view l.limits)) l.rest
    ≡ flows_of l.instance l.self.numbers.items
