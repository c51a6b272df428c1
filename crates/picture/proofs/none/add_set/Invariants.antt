use Rattle.std.proofs.Common.{◌++◌, drop}
use Rattle.bucket_core.specs.Rule.{names_view}
use Rattle.price_core.specs.Limits.{limits_view}
use Rattle.picture.specs.Deficits.{set_end, set_told}
use Rattle.picture.specs.Told.{named_told, next_row, told}
use Rattle.picture.proofs.Remaining.{Stands}
use Rattle.picture.proofs.none.add_set.Given as goal

-- the names that are left
abbrev pub invariant-loop-name : goal.invariant-loop-name
invariant-loop-name l =
    Stands (named_told (limits_view l.limits)) (λ z n. next_row z) l.row (names_view (drop l.name-index l.names)) (told l.elements.items) (told l.fn.elements.items ++ set_told (limits_view l.limits) l.y (names_view l.names)) (set_end l.y (names_view l.names))
