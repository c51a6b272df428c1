use Rattle.std.proofs.Common.{◌||◌, ap, sym, ◌∙◌}
use Rattle.logic_ast.specs.View.{node_view, buckets_view}
use Rattle.logic_ast.proofs.Views.{node_view-fractional}
use Rattle.flagops_checks.specs.Sites.{buckets_have}
use Rattle.flagops_checks.proofs.Within.{here, inside}
use Rattle.flagops_checks.proofs.sites.+sites.Goals as goal

pub has_site-returns-then-is_doubted_site : goal.has_site-returns-then-is_doubted_site
has_site-returns-then-is_doubted_site t c =
    here c.args.doubt _ c.in-Fractional.site _ _ (ap node_view c.in-Fractional.is ∙ node_view-fractional _ _ _) (sym c.is_doubted_site.ensures ∙ c.if-is_doubted_site.true)

pub has_site-returns-then-by_has : goal.has_site-returns-then-by_has
has_site-returns-then-by_has t c =
    let within = inside c.args.doubt _ c.in-Fractional.site _ _ (ap node_view c.in-Fractional.is ∙ node_view-fractional _ _ _) (sym c.is_doubted_site.ensures ∙ c.if-is_doubted_site.false) in
    c.if-by_has.true ∙ ap (λ x. x || buckets_have c.args.doubt (buckets_view c.in-Fractional.buckets.items)) (sym c.if-by_has.true ∙ c.by_has.ensures) ∙ within

pub has_site-returns-else-by_has : goal.has_site-returns-else-by_has
has_site-returns-else-by_has t c =
    let within = inside c.args.doubt _ c.in-Fractional.site _ _ (ap node_view c.in-Fractional.is ∙ node_view-fractional _ _ _) (sym c.is_doubted_site.ensures ∙ c.if-is_doubted_site.false) in
    c.buckets_have.ensures ∙ ap (λ x. x || buckets_have c.args.doubt (buckets_view c.in-Fractional.buckets.items)) (sym c.if-by_has.false ∙ c.by_has.ensures) ∙ within
