use Rattle.std.proofs.Common.{ap, ◌∙◌, rules}
use Rattle.logic_ast.proofs.Views.{node_view-fractional}
use Rattle.logic_ast.specs.View.{node_view}
use Rattle.flagops_filters.specs.Moment.{reads_moment}
use Rattle.flagops_filters.proofs.moment.+reads.Goals as goal

pub reads-returns-else-by_reads : goal.reads-returns-else-by_reads
reads-returns-else-by_reads t c =
    let e = ap reads_moment (ap node_view c.in-Fractional.is ∙ node_view-fractional _ _ _) in search rules
