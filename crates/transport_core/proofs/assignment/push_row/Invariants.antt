use Rattle.std.proofs.Common.{◌≡◌, ◌++◌, drop}
use Rattle.std.specs.Map.{keys_of}
use Rattle.price_core.specs.Limits.{limits_view}
use Rattle.transport_core.specs.Assignment.{assigned_view, row_flows}
use Rattle.transport_core.specs.Groups.{row_view}
use Rattle.transport_core.proofs.assignment.push_row.Given as goal

-- what is pushed, with the rest, is the whole
abbrev pub invariant-loop-place : goal.invariant-loop-place
invariant-loop-place l =
    assigned_view l.rows.items ++ row_flows (row_view l.group).0 (keys_of (limits_view (drop l.place l.limits))) (drop l.place l.row)
    ≡ assigned_view l.fn.rows.items ++ row_flows (row_view l.group).0 (keys_of (limits_view l.limits)) l.row
