use Rattle.std.proofs.Common.{◌+◌, ◌≤◌}
use Rattle.min_cost_flow.specs.Flow.{total_at}
use Rattle.min_cost_flow.proofs.Filled.{Emptying}
use Rattle.min_cost_flow.specs.Effort.{Searches, nodes_of}
use Rattle.min_cost_flow.specs.Placing.{excess}
use Rattle.min_cost_flow.proofs.placing.empty_to_high.Given as goal

abbrev pub invariant-points : goal.invariant-points
invariant-points g l = record {
  emptying : Emptying l.problem l.initial.flow l.flow l.search;
  excess : l.effort.augmentations + excess l.problem l.flow ≤ l.initial.effort.augmentations + excess l.problem l.initial.flow;
  searches : Searches (nodes_of l.problem) 0 l.initial.effort l.effort;
}

abbrev pub decreases-points : goal.decreases-points
decreases-points g l = total_at l.flow l.from
