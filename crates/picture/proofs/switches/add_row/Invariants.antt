use Rattle.std.proofs.Common.{◌++◌, ◌-◌}
use Rattle.std.specs.List.{range_with_len}
use Rattle.std.specs.Map.{keys_of}
use Rattle.price_core.specs.Limits.{limits_view}
use Rattle.picture.specs.Changes.{between_end, between_told, row_end, row_told}
use Rattle.picture.specs.Told.{told}
use Rattle.picture.proofs.Remaining.{Stands}
use Rattle.picture.proofs.switches.add_row.Given as goal

-- the switches that are left
abbrev pub invariant-loop-to : goal.invariant-loop-to
invariant-loop-to l =
    let prices = l.change.prices.now in
    let names = keys_of (limits_view l.limits) in
    let t = l.change.table.now in
    Stands (between_told prices names t l.fn.from) (between_end prices names t l.fn.from) l.row (range_with_len l.to (t.0 - l.to)) (told l.elements.items) (told l.fn.elements.items ++ row_told prices names t l.y l.fn.from) (row_end prices names t l.y l.fn.from)
