use Rattle.std.proofs.Common.{map, ap, sym, ◌∙◌}
use Rattle.std.specs.List.{list_any}
use Rattle.flag_text.specs.View.{view}
use Rattle.logic_values.specs.Comparison.{is_same}
use Rattle.logic_values.specs.Lists.{is_in}
use Rattle.logic_values.specs.Views.{seen_view, value_view}
use Rattle.logic_values.proofs.Items.{shapes_of_items}
use Rattle.logic_values.proofs.lists.is_in.Goals as goal

pub returns-in-Trees : goal.returns-in-Trees
returns-in-Trees c = c.is_among_trees.ensures
    ∙ sym (ap (λ w. is_in (seen_view c.args.value) (seen_view w)) c.in-Trees.is ∙ ap (list_any (is_same (seen_view c.args.value))) (shapes_of_items (map view c.in-Trees.trees.now)))

pub returns-in-Values : goal.returns-in-Values
returns-in-Values c = c.is_among.ensures
    ∙ sym (ap (λ w. is_in (seen_view c.args.value) (seen_view w)) c.in-Values.is ∙ ap (list_any (is_same (seen_view c.args.value))) (shapes_of_items (map value_view c.in-Values.items.now)))
