use Rattle.std.proofs.Common.{option_map, ap, sym, ◌∙◌}
use Rattle.logic_ast.specs.Found.{found}
use Rattle.logic_ast.specs.Parts.{site_parts}
use Rattle.logic_ast.specs.View.{node_view}
use Rattle.logic_ast.proofs.Places.{found-here, found-later}
use Rattle.logic_ast.proofs.Views.{node_view-fractional}
use Rattle.logic_ast.proofs.find.+find.Goals as goal

pub find-returns-then-site-n : goal.find-returns-then-site-n
find-returns-then-site-n t c =
    let n = c.args.n in
    sym (ap (λ e. option_map site_parts (found n e)) (ap node_view c.in-Fractional.is ∙ node_view-fractional _ _ _) ∙ found-here n c.in-Fractional.site _ _ c.if-site-n.true)

pub find-returns-in-None : goal.find-returns-in-None
find-returns-in-None t c =
    let n = c.args.n in
    c.find_in_buckets.ensures
    ∙ sym (ap (λ e. option_map site_parts (found n e)) (ap node_view c.in-Fractional.is ∙ node_view-fractional _ _ _) ∙ found-later n c.in-Fractional.site _ _ c.if-site-n.false (sym c.in-None.ensures))
