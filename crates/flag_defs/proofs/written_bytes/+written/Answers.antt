use Rattle.std.proofs.Common.{codes, ap, sym, ◌∙◌}
use Rattle.logic_ast.specs.View.{node_view, buckets_view}
use Rattle.logic_ast.specs.Writing.{written, buckets_written}
use Rattle.logic_ast.proofs.Views.{node_view-fractional}
use Rattle.flag_defs.specs.PrintedBytes.{enclosed, tree_bytes, with_member}
use Rattle.flag_defs.proofs.written_bytes.+written.Goals as goal

pub node_bytes-returns-in-Fractional : goal.node_bytes-returns-in-Fractional
node_bytes-returns-in-Fractional t c =
    let bs = buckets_written (buckets_view c.in-Fractional.buckets.items) in
    let whole = ap written (ap node_view c.in-Fractional.is ∙ node_view-fractional _ _ _) in
    c.applied_bytes-in-Fractional.ensures
    ∙ (ap (λ n. enclosed (with_member (codes "fractional") (enclosed n) 0)) (c.with_by.ensures bs c.buckets_bytes-arguments.ensures) ∙ ap tree_bytes (sym whole))
