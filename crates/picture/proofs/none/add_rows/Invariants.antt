use Rattle.std.proofs.Common.{◌++◌, drop}
use Rattle.price_core.specs.Limits.{limits_view}
use Rattle.picture.specs.Deficits.{limit_end, limit_told}
use Rattle.picture.specs.Told.{foot, rows_told, told}
use Rattle.picture.proofs.Remaining.{Stands}
use Rattle.picture.proofs.none.add_rows.Given as goal

-- the rows that are left
abbrev pub invariant-loop-limit : goal.invariant-loop-limit
invariant-loop-limit l =
    let limits = limits_view l.limits in
    Stands (limit_told limits l.old) limit_end l.row (limits_view (drop l.limit-index l.limits)) (told l.elements.items) (told l.fn.elements.items ++ rows_told (limit_told limits l.old) limit_end l.y limits) (foot limit_end l.y limits)
