use Rattle.std.proofs.Common.{map, ap, ◌∙◌}
use Rattle.std.proofs.lemmas.Result.{IfOk-weaker}
use Rattle.logic_ast.specs.Expr.{view}
use Rattle.logic_ast.specs.View.{node_view}
use Rattle.site_pages.specs.Sites.{place_view}
use Rattle.site_pages.proofs.Placed.{all_found, are_pages, formed_of, places_are_whole}
use Rattle.site_pages.proofs.pages.pages_of.Goals as goal

pub pages_at-requires : goal.pages_at-requires
pages_at-requires c =
    let e = view c.args.targeting.now in
    let found = all_found e (node_view c.root.result.now) c.new-places.result.items c.visit.new.places.items c.new-places.ensures.items c.root.ensures.value c.in_ok-visit.ensures in
    places_are_whole e c.as_slice.result.now (formed_of e c.args.targeting.now.well_formed) (ap (map place_view) c.as_slice.ensures.value ∙ found)

pub returns : goal.returns
returns c =
    let e = view c.args.targeting.now in
    let found = all_found e (node_view c.root.result.now) c.new-places.result.items c.visit.new.places.items c.new-places.ensures.items c.root.ensures.value c.in_ok-visit.ensures in
    IfOk-weaker c.pages_at.result _ _
    (λ pages is. are_pages c.args.flag.now e c.as_slice.result.now pages.items (formed_of e c.args.targeting.now.well_formed) (ap (map place_view) c.as_slice.ensures.value ∙ found) is)
    c.pages_at.ensures
