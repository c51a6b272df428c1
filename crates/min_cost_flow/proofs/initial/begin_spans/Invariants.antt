use Rattle.min_cost_flow.proofs.JoinedSpans.{JoinedBelow}
use Rattle.min_cost_flow.proofs.initial.begin_spans.Given as goal

abbrev pub invariant-loop-g : goal.invariant-loop-g
invariant-loop-g l = JoinedBelow l.groups l.names l.g l.spans
