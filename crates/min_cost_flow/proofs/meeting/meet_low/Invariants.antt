use Rattle.std.proofs.Common.{◌≡◌, ◌+◌, ◌≤◌, false, length, get_or}
use Rattle.min_cost_flow.specs.Problem.{names_of}
use Rattle.min_cost_flow.specs.Effort.{Searches, nodes_of}
use Rattle.min_cost_flow.specs.Meeting.{IsInSecondPass, deficit}
use Rattle.min_cost_flow.proofs.meeting.meet_low.Given as goal

abbrev pub invariant-points : goal.invariant-points
invariant-points g l = record {
  second_pass : IsInSecondPass l.problem l.flow l.search;
  size : length l.wanted.items ≡ names_of l.problem + 1;
  root : get_or l.wanted.items (names_of l.problem) false ≡ false;
  deficit : l.effort.augmentations + deficit l.problem l.flow ≤ l.initial.effort.augmentations + deficit l.problem l.initial.flow;
  searches : Searches (nodes_of l.problem) 0 l.initial.effort l.effort;
}

abbrev pub decreases-points : goal.decreases-points
decreases-points g l = deficit l.problem l.flow
