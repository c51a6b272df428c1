use Rattle.std.proofs.Common.{◌||◌, ap, sym, ◌∙◌}
use Rattle.std.specs.List.{list_any}
use Rattle.logic_ast.specs.Sites.{preorder_in_buckets}
use Rattle.logic_ast.specs.View.{node_view, buckets_view}
use Rattle.logic_ast.proofs.Views.{node_view-fractional}
use Rattle.flag_doubts.specs.Weights.{is_bad_site}
use Rattle.flag_doubts.proofs.Sites.{here, inside}
use Rattle.flag_doubts.proofs.weights.+weights.Goals as goal

pub has_bad_site-returns-then-weigh_badly : goal.has_bad_site-returns-then-weigh_badly
has_bad_site-returns-then-weigh_badly t c = here _ c.in-Fractional.site _ _ (ap node_view c.in-Fractional.is ∙ node_view-fractional _ _ _) (sym c.weigh_badly.ensures ∙ c.if-weigh_badly.true)

pub has_bad_site-returns-then-by_has_bad_site : goal.has_bad_site-returns-then-by_has_bad_site
has_bad_site-returns-then-by_has_bad_site t c =
    let within = inside _ c.in-Fractional.site _ _ (ap node_view c.in-Fractional.is ∙ node_view-fractional _ _ _) (sym c.weigh_badly.ensures ∙ c.if-weigh_badly.false) in
    c.if-by_has_bad_site.true ∙ ap (λ x. x || list_any is_bad_site (preorder_in_buckets (buckets_view c.in-Fractional.buckets.items))) (sym c.if-by_has_bad_site.true ∙ c.by_has_bad_site.ensures) ∙ within

pub has_bad_site-returns-else-by_has_bad_site : goal.has_bad_site-returns-else-by_has_bad_site
has_bad_site-returns-else-by_has_bad_site t c =
    let within = inside _ c.in-Fractional.site _ _ (ap node_view c.in-Fractional.is ∙ node_view-fractional _ _ _) (sym c.weigh_badly.ensures ∙ c.if-weigh_badly.false) in
    c.buckets_have_bad_site.ensures ∙ ap (λ x. x || list_any is_bad_site (preorder_in_buckets (buckets_view c.in-Fractional.buckets.items))) (sym c.if-by_has_bad_site.false ∙ c.by_has_bad_site.ensures) ∙ within
