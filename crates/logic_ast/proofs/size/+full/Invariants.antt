use Rattle.std.proofs.Common.{◌≡◌, drop}
use Rattle.flag_text.specs.View.{items_view, members_view}
use Rattle.logic_ast.specs.Size.{items_size, members_size, left_after}
use Rattle.logic_ast.proofs.size.+full.Given as goal

abbrev pub invariant-count_items-loop-item : goal.invariant-count_items-loop-item
invariant-count_items-loop-item l = left_after l.levels l.nodes (items_size (items_view l.items)) ≡ left_after l.levels l.left (items_size (items_view (drop l.item-index l.items)))

abbrev pub invariant-count_literal-loop-member : goal.invariant-count_literal-loop-member
invariant-count_literal-loop-member l =
    left_after l.levels l.nodes (members_size (members_view l.members)) ≡ left_after l.levels l.left (members_size (members_view (drop l.member-index l.members)))
