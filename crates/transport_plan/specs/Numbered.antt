-- A planning problem whose groups and names are numbered by their places.
use Rattle.std.specs.Prelude.{◌≡◌, ℕ, ℤ, ◌<◌, List, [], length, Option, Some, slice_index, slice_index_or}
use Rattle.std.specs.Map.{keys_of}
use Rattle.min_cost_flow.specs.Offered.{IsSwitchCost}
use Rattle.min_cost_flow.specs.Flow.{IsFlow}
use Rattle.min_cost_flow.specs.Problem.{IsFlowProblem, group_at, names_of, switch_cost_at}
use Rattle.min_cost_flow.specs.declared.flow.Flow.{Flow}
use Rattle.min_cost_flow.specs.declared.problem.FlowProblem.{FlowProblem}
use Rattle.transport_core.specs.Groups.{GroupKey}
use Rattle.transport_core.specs.Instance.{TransportProblem}
use Rattle.transport_plan.specs.Network.{switch_price}

abbrev pub name_at : TransportProblem → ℕ → List ℕ
name_at p v = slice_index_or (keys_of p.limits) v []

abbrev pub limit_at : TransportProblem → ℕ → List ℕ × (ℕ × ℕ)
limit_at p v = slice_index_or p.limits v ([], (0, 0))

abbrev pub row_at : TransportProblem → ℕ → GroupKey × ℕ
row_at p g = slice_index_or p.groups g (([], 0), 0)

-- a switch that is not forbidden costs no more than the largest price
abbrev pub IsPriced : Option ℤ → Type 0
IsPriced cost = (price : ℤ) → cost ≡ Some price → IsSwitchCost price

-- the same groups, limits and prices of switches, by number
pub record IsNumbered (p : TransportProblem) (q : FlowProblem) : Type 0 where
  pub names : names_of q ≡ length p.limits
  pub groups : length q.groups.items ≡ length p.groups
  pub low : (v : ℕ) → v < length p.limits → slice_index q.low.items v ≡ (limit_at p v).1.0
  pub high : (v : ℕ) → v < length p.limits → slice_index q.high.items v ≡ (limit_at p v).1.1
  pub variant_in : (g : ℕ) → g < length p.groups → (group_at q.groups.items g).variant < length p.limits
  pub variant : (g : ℕ) → g < length p.groups → name_at p (group_at q.groups.items g).variant ≡ (row_at p g).0.0
  pub count : (g : ℕ) → g < length p.groups → (group_at q.groups.items g).count ≡ (row_at p g).0.1
  pub points : (g : ℕ) → g < length p.groups → (group_at q.groups.items g).points ≡ (row_at p g).1
  pub costs : (v w : ℕ) → v < length p.limits → w < length p.limits → switch_cost_at q.costs.items (names_of q) v w ≡ switch_price p.pricing (name_at p v) (name_at p w)

-- a flow of the instance, in numbers
pub record IsFlowOf (p : TransportProblem) (q : FlowProblem) (f : Flow) : Type 0 where
  pub numbered : IsNumbered p q
  pub lawful : IsFlowProblem q
  pub flow : IsFlow q f
