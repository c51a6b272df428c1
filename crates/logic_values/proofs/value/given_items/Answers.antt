use Rattle.std.proofs.Common.{◌≡◌, map, ap, sym, ◌∙◌}
use Rattle.flag_text.specs.View.{view}
use Rattle.logic_values.specs.Lists.{items_in}
use Rattle.logic_values.proofs.Items.{items_in_list}
use Rattle.logic_values.proofs.value.given_items.Goals as goal

pub returns-in-List : goal.returns-in-List
returns-in-List c =
    let is : items_in (view c.args.part.tree.now) ≡ map view c.as_slice.result.now =
    ap (λ t. items_in (view t)) c.in-List.is ∙ (items_in_list c.in-List.items ∙ ap (map view) (sym c.as_slice.ensures.value)) in
    rw is c.given.ensures
