use Rattle.min_cost_flow.specs.Problem.{names_of}
use Rattle.min_cost_flow.specs.Spans.{AreSpans}
use Rattle.min_cost_flow.proofs.BegunArcs.{ArcsBelow}
use Rattle.min_cost_flow.proofs.initial.begin_arcs.Given as goal

abbrev pub invariant-loop-name : goal.invariant-loop-name
invariant-loop-name l = ArcsBelow l.problem l.placed l.totals l.name l.arcs × AreSpans l.problem.groups.items (names_of l.problem) l.placed l.spans
