use Rattle.std.proofs.Common.{◌≡◌, map, ap, ◌∙◌}
use Rattle.logic_values.specs.Lists.{parts_of}
use Rattle.logic_values.specs.Views.{value_view}
use Rattle.logic_values.proofs.Surfaces.{value_items}
use Rattle.logic_values.proofs.Items.{shapes_of_items}
use Rattle.logic_values.proofs.lists.push_parts.Goals as goal

pub returns-in-Items : goal.returns-in-Items
returns-in-Items c =
    let is : parts_of (value_view c.args.value) ≡ map value_view c.in-Items.parts.items = ap (λ v. parts_of (value_view v)) c.in-Items.is ∙ (ap parts_of (value_items c.in-Items.parts) ∙ shapes_of_items (map value_view c.in-Items.parts.items)) in
    rw is c.push_values.ensures
