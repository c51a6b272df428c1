use Rattle.std.proofs.Common.{◌++◌, drop}
use Rattle.price_core.specs.Limits.{limits_view}
use Rattle.picture.specs.Edits.{points_end, points_told}
use Rattle.picture.specs.Told.{foot, rows_told, told}
use Rattle.picture.proofs.Remaining.{Stands}
use Rattle.picture.proofs.edit.add_variants.Given as goal

-- the rows that are left
abbrev pub invariant-loop-limit : goal.invariant-loop-limit
invariant-loop-limit l =
    let names = limits_view l.names in
    let row = points_told names l.edited.old.now l.edited.new.now in
    Stands row points_end l.row (limits_view (drop l.limit-index l.names)) (told l.elements.items) (told l.fn.elements.items ++ rows_told row points_end l.y names) (foot points_end l.y names)
