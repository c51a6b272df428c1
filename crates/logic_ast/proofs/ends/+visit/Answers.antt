use Rattle.std.proofs.Common.{ap, ◌∙◌}
use Rattle.logic_ast.specs.View.{node_view, boxed_view, buckets_view}
use Rattle.logic_ast.proofs.Summed.{on_ok, visited}
use Rattle.logic_ast.proofs.Views.{node_view-fractional}
use Rattle.logic_ast.proofs.ends.+visit.Goals as goal

pub visit-returns-in_ok-visit_by-in-Fractional : goal.visit-returns-in_ok-visit_by-in-Fractional
visit-returns-in_ok-visit_by-in-Fractional t c =
    on_ok c.visit_buckets.result _ _
    (λ is. visited c.args.ends.now.items c.push.new.self.items c.visit_by.new.ends.items c.visit_buckets.new.ends.items c.in_ok-own-in-Fractional.own (node_view c.args.node.now) _ (boxed_view c.in-Fractional.by) (buckets_view c.in-Fractional.buckets.items)
    c.in_ok-push-in-Fractional.ensures.items c.in_ok-own-in-Fractional.ensures c.in_ok-visit_by-in-Fractional.ensures is (ap node_view c.in-Fractional.is ∙ node_view-fractional _ _ _))
    c.visit_buckets.ensures
