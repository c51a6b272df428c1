use Rattle.std.proofs.Common.{◌≡◌, drop}
use Rattle.flag_text.specs.View.{items_view}
use Rattle.kept_document.specs.Seeking.{find_in_items}
use Rattle.kept_document.proofs.seeking.+find.Given as goal

abbrev pub invariant-find_in_items-loop-index : goal.invariant-find_in_items-loop-index
invariant-find_in_items-loop-index l = find_in_items 0 l.left (items_view l.items) ≡ find_in_items l.index l.later (items_view (drop l.index l.items))
