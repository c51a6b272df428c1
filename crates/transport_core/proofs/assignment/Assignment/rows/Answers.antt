use Rattle.std.proofs.Common.{◌+◌, ◌++◌, ℕ, List, drop, get_or, append_assoc, sym, ap, ◌∙◌}
use Rattle.std.specs.Map.{keys_of}
use Rattle.price_core.specs.Limits.{limits_view}
use Rattle.transport_core.specs.Assignment.{Arc, assigned_view, arc_flows, row_flows}
use Rattle.transport_core.specs.Groups.{row_view, rows_view}
use Rattle.transport_core.proofs.Arcs.{Row, arcs_step, element_here, no_row, width_of}
use Rattle.transport_core.proofs.assignment.Assignment.rows.Goals as goal

pub loop-group-preserved : goal.loop-group-preserved
loop-group-preserved c =
    let groups = c.groups-group-items.result.now in
    let limits = c.entries-limits.result.now in
    let names = keys_of (limits_view limits) in
    let i = c.loop-group.group-index in
    let g = get_or groups i no_row in
    let later = rows_view (drop (i + 1) groups) in
    let row = c.cut.result.0.now in
    let more = c.cut.result.1.now in
    let before = assigned_view c.loop-group.rows.items in
    let here = element_here groups i no_row c.loop-group-test.true in
    let step = ap (λ (gs : List Row). arc_flows (keys_of (rows_view gs)) names c.loop-group.rest.now) here
    ∙ arcs_step (row_view g) later names _ c.loop-group.rest.now row more (width_of limits) c.cut.ensures.front c.cut.ensures.back in
    ap (λ (fs : List (Arc × ℕ)). fs ++ arc_flows (keys_of later) names more) c.in_ok-push_row.ensures
    ∙ (append_assoc before (row_flows (row_view g).0 names row) (arc_flows (keys_of later) names more)
    ∙ (ap (λ (fs : List (Arc × ℕ)). before ++ fs) (sym step) ∙ c.loop-group.invariant))
