use Rattle.std.proofs.Common.{◌≡◌, Some, ap, ◌∙◌, sym, arith}
use Rattle.flag_text.specs.Readers.{as_list}
use Rattle.flag_text.specs.View.{items_view, view}
use Rattle.text_spans.specs.View.{path_of}
use Rattle.kept_document.specs.Place.{at_spot}
use Rattle.kept_document.specs.View.{spot_view}
use Rattle.kept_document.proofs.Trees.{list_at}
use Rattle.kept_document.proofs.locating.buckets_at.Goals as goal

pub returns-in-Some : goal.returns-in-Some
returns-in-Some c =
    let items : as_list (view c.in-Part.part.now) ≡ Some (items_view c.in-Some.items.now) = grind arith in
    c.in_list.ensures ∙ list_at c.args.front (path_of c.in-Part.list.items) _ _ items ∙ ap (λ s. at_spot c.args.front (spot_view s)) (sym c.in-Part.is)
