use Rattle.std.proofs.Common.{◌++◌, ◌-◌}
use Rattle.std.specs.List.{range_with_len}
use Rattle.std.specs.Map.{keys_of}
use Rattle.price_core.specs.Limits.{limits_view}
use Rattle.picture.specs.Changes.{row_end, row_told}
use Rattle.picture.specs.Told.{foot, rows_told, told}
use Rattle.picture.proofs.Remaining.{Stands}
use Rattle.picture.proofs.switches.add_rows.Given as goal

-- the rows that are left
abbrev pub invariant-loop-from : goal.invariant-loop-from
invariant-loop-from l =
    let prices = l.change.prices.now in
    let names = keys_of (limits_view l.limits) in
    let t = l.change.table.now in
    Stands (row_told prices names t) (row_end prices names t) l.row (range_with_len l.from (t.0 - l.from)) (told l.elements.items) (told l.fn.elements.items ++ rows_told (row_told prices names t) (row_end prices names t) l.y (range_with_len 0 t.0)) (foot (row_end prices names t) l.y (range_with_len 0 t.0))
