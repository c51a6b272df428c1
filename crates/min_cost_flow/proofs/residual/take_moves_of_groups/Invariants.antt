use Rattle.std.proofs.Common.{length}
use Rattle.min_cost_flow.specs.Spans.{AreSpans}
use Rattle.min_cost_flow.proofs.VariantTurns.{RowBelow}
use Rattle.min_cost_flow.proofs.residual.take_moves_of_groups.Given as goal

abbrev pub invariant-loop-variant : goal.invariant-loop-variant
invariant-loop-variant l = RowBelow l.groups l.costs l.placed (length l.initial.row) l.name l.variant l.row × AreSpans l.groups (length l.initial.row) l.placed l.spans
