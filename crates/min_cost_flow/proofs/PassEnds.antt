-- How the passes begin, and what they end with.
use Rattle.std.proofs.Common.{◌≡◌, ℕ, ◌+◌, ◌<◌, ◌≤◌, pos, get_or, arith}
use Rattle.std.proofs.lemmas.Int.{ints}
use Rattle.min_cost_flow.specs.Optimal.{IsOptimal}
use Rattle.min_cost_flow.specs.Problem.{IsFlowProblem, names_of}
use Rattle.min_cost_flow.specs.declared.problem.FlowProblem.{FlowProblem}
use Rattle.min_cost_flow.specs.Flow.{IsFlow, flows_of, total_at}
use Rattle.min_cost_flow.specs.declared.flow.Flow.{Flow}
use Rattle.min_cost_flow.specs.Found.{HasSize, potential_of}
use Rattle.min_cost_flow.specs.declared.search.Search.{Search}
use Rattle.min_cost_flow.specs.Cheapest.{IsCheapest}
use Rattle.min_cost_flow.specs.Meeting.{IsInSecondPass}
use Rattle.min_cost_flow.specs.Placing.{IsInFirstPass}

-- all potentials are 0
pub first_pass_begins : (p : FlowProblem) (f : Flow) (s : Search) → IsFlow p f → IsOptimal (flows_of p f) (λ _. pos 0) → HasSize (names_of p + 1) s → ((v : ℕ) → v < names_of p + 1 → potential_of s v ≡ pos 0) → IsInFirstPass p f s
first_pass_begins p f s flow optimal size zero = record {
  flow = flow;
  optimal = record {
    least = λ g v w g_in v_in w_in some may. omega (arith, ints, optimal.least g v w g_in v_in w_in some may, zero v (omega (arith, v_in)), zero w (omega (arith, w_in)));
    room = λ v v_in less. omega (arith, ints, zero v (omega (arith, v_in)), zero (names_of p) (omega arith));
    spare = λ v v_in more. omega (arith, ints, zero v (omega (arith, v_in)), zero (names_of p) (omega arith));
  };
  size = size;
  root = zero (names_of p) (omega arith);
  low = λ v v_in. omega (arith, ints, zero v v_in);
  high = λ v v_in. omega (arith, ints, zero v v_in);
}

-- the second pass takes over where all are within the high limits
pub second_pass_begins : (p : FlowProblem) (ok : IsFlowProblem p) (f : Flow) (s : Search) → IsInFirstPass p f s → ((v : ℕ) → v < names_of p → total_at f v ≤ get_or p.high.items v 0) → IsInSecondPass p f s
second_pass_begins p ok f s first_pass placed = record {
  flow = first_pass.flow;
  optimal = first_pass.optimal;
  size = first_pass.size;
  placed = placed;
  low = first_pass.low;
  high = first_pass.high;
  below = λ v v_in under. omega (arith, ints, first_pass.root, first_pass.optimal.room v v_in (omega (arith, under, ok.ordered v v_in)));
}

pub at_last : (p : FlowProblem) (f : Flow) (s : Search) → IsInSecondPass p f s → ((v : ℕ) → v < names_of p → get_or p.low.items v 0 ≤ total_at f v) → IsCheapest p f s
at_last p f s second_pass lows = record {
  optimal = second_pass.optimal;
  lows = lows;
  highs = second_pass.placed;
  size = second_pass.size;
  low = second_pass.low;
  high = second_pass.high;
}
