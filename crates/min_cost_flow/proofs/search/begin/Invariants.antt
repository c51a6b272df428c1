use Rattle.std.proofs.Common.{◌≡◌, ◌<◌, ℕ, None, length}
use Rattle.min_cost_flow.specs.Searched.{distance_in, settle_order_in}
use Rattle.min_cost_flow.proofs.search.begin.Given as goal

abbrev pub invariant-loop-v : goal.invariant-loop-v
invariant-loop-v l = record {
  many : length l.nodes ≡ length l.initial.nodes;
  unsettled : (w : ℕ) → w < l.v → settle_order_in l.nodes w ≡ length l.initial.nodes;
  unreached : (w : ℕ) → w < l.v → distance_in l.nodes w ≡ None;
}
