use Rattle.std.proofs.Common.{◌≡◌, drop}
use Rattle.flag_text.specs.View.{items_view}
use Rattle.flag_references.specs.Misplaced.{any_has_misuse}
use Rattle.flag_references.proofs.misplaced.+misuse.Given as goal

abbrev pub invariant-any_has_misuse-loop-item : goal.invariant-any_has_misuse-loop-item
invariant-any_has_misuse-loop-item l = any_has_misuse (items_view l.items) ≡ any_has_misuse (items_view (drop l.item-index l.items))
