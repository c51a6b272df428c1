-- A group's numbers are as many as names.
use Rattle.std.proofs.Common.{length, get_or, arith}
use Rattle.transport_plan.proofs.Numbers.{row_wide}
use Rattle.transport_plan.proofs.thresholds.ranks_of.Goals as goal

pub rank-rank-requires-clause-before : goal.rank-rank-requires-clause-before
rank-rank-requires-clause-before c = omega (arith, c.first-stretch.ensures.before, c.requires.bases.named (get_or c.args.points.now c.saturating_sub.result 0) 0 (c.requires.bases.within c.saturating_sub.result 0 (omega (arith, c.saturating_sub.ensures))), row_wide (length c.args.bases.now) c.args.names c.first-stretch.result.group c.args.numbers.now c.requires.bases.shape c.first-stretch.ensures.group)

pub rank-rank-requires-clause-after : goal.rank-rank-requires-clause-after
rank-rank-requires-clause-after c = omega (arith, c.first-stretch.ensures.after c.args.names c.requires.bases.named, row_wide (length c.args.bases.now) c.args.names c.first-stretch.result.group c.args.numbers.now c.requires.bases.shape c.first-stretch.ensures.group)
