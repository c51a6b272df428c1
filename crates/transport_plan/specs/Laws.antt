-- What the laws of flows say.
use Rattle.std.specs.Prelude.{◌≡◌, ℕ, ℤ, Bool, List, length, ◌<◌, ◌≤◌, pos, ◌-ℤ◌, slice_index, slice_index_or, Option}
use Rattle.std.specs.Map.{keys_of}
use Rattle.bucket_core.specs.Rule.{Entries}
use Rattle.price_core.specs.Limits.{AreLimits}
use Rattle.transport_core.specs.Assignment.{IsProved, flow_cost, flows_of}
use Rattle.transport_core.specs.Deficient.{IsOver, IsUnder}
use Rattle.transport_core.specs.Groups.{AreSizes}
use Rattle.transport_core.specs.Instance.{TransportProblem}
use Rattle.transport_plan.specs.Cuts.{IsStuck, IsUnmet}
use Rattle.transport_plan.specs.Slackness.{IsOptimal, AreLeastOffers, certificate_of}
use Rattle.transport_plan.specs.Costs.{all_cost}
use Rattle.transport_plan.specs.DualPrices.{IsLeastAt}
use Rattle.min_cost_flow.specs.Problem.{names_of}
use Rattle.min_cost_flow.specs.declared.problem.FlowProblem.{FlowProblem}
use Rattle.min_cost_flow.specs.Flow.{IsFlowAt, flows_at, groups_of}
use Rattle.min_cost_flow.specs.declared.arc.Arc.{Arc}
use Rattle.transport_plan.specs.Numbered.{IsNumbered}
use Rattle.min_cost_flow.specs.Optimal as numbers

-- The dual prices of the names of an optimal flow, with the least offers of the groups, prove what the flow costs.
abbrev pub DualPricesProve : Type 0
DualPricesProve =
    (p : TransportProblem) (numbers : List ℕ) (alpha beta : List ℤ) (cost : ℕ) → AreLimits p.limits → IsOptimal p numbers beta
    → length alpha ≡ length p.groups → AreLeastOffers p.pricing p.groups (keys_of p.limits) beta alpha
    → flow_cost p.pricing (flows_of p numbers) ≡ cost → IsProved p numbers (certificate_of p alpha beta cost)

-- Names that no point can leave show that the points do not fit within the high limits.
abbrev pub StuckIsOver : Type 0
StuckIsOver =
    (p : TransportProblem) (numbers : List ℕ) (inside : List ℕ → Bool) (set : List (List ℕ)) (old : Entries) (inputs : List (List ℕ))
    → AreLimits p.limits → AreSizes old inputs p.groups → IsStuck p numbers inside set → IsOver old p.limits p.pricing set

-- Names that no point can enter show that the points do not reach the low ones.
abbrev pub UnmetIsUnder : Type 0
UnmetIsUnder =
    (p : TransportProblem) (numbers : List ℕ) (set : List (List ℕ)) (old : Entries) (inputs : List (List ℕ))
    → AreSizes old inputs p.groups → IsUnmet p numbers set → IsUnder old p.limits p.pricing set

-- each name's total is within its limits
abbrev pub AreWithin : TransportProblem → FlowProblem → List ℕ → Type 0
AreWithin p q totals =
    ((v : ℕ) → v < length p.limits → slice_index q.low.items v ≤ slice_index totals v)
    × ((v : ℕ) → v < length p.limits → slice_index totals v ≤ slice_index q.high.items v)

-- the dual price of each name is its potential over that of the root, which has the number after the names
abbrev pub AreDualPrices : TransportProblem → (ℕ → ℤ) → List ℤ → Type 0
AreDualPrices p potential beta =
    (length beta ≡ length p.limits)
    × ((v : ℕ) → v < length p.limits → slice_index_or beta v (pos 0) ≡ (potential v -ℤ potential (length p.limits)))

-- the dual price of each group is the least that a switch of one of its points costs, less the dual price of the new name
abbrev pub AreOffers : TransportProblem → FlowProblem → List ℤ → List ℤ → Type 0
AreOffers p q beta alpha =
    (length alpha ≡ length p.groups)
    × ((g : ℕ) → g < length p.groups → IsLeastAt q.groups.items q.costs.items (names_of q) beta g (slice_index_or alpha g (pos 0)))

-- A flow within its limits that is optimal by potentials is optimal for the planning problem by dual prices, the potentials over
-- that of the root.
abbrev pub OptimalFlows : Type 0
OptimalFlows =
    (p : TransportProblem) (q : FlowProblem) (placed totals : List ℕ) (arcs : List (Option Arc)) (potential : ℕ → ℤ) (beta : List ℤ)
    → IsNumbered p q → IsFlowAt q placed totals arcs → numbers.IsOptimal (flows_at q placed totals) potential
    → AreWithin p q totals → AreDualPrices p potential beta → IsOptimal p placed beta

-- The dual prices of groups, by number, are least offers.
abbrev pub LeastOffers : Type 0
LeastOffers =
    (p : TransportProblem) (q : FlowProblem) (alpha beta : List ℤ) → IsNumbered p q → AreOffers p q beta alpha
    → AreLeastOffers p.pricing p.groups (keys_of p.limits) beta alpha

-- A flow within its limits that is optimal by potentials is proved to cost the least.
abbrev pub OptimalFlowIsProved : Type 0
OptimalFlowIsProved =
    (p : TransportProblem) (q : FlowProblem) (placed totals : List ℕ) (arcs : List (Option Arc)) (potential : ℕ → ℤ) (alpha beta : List ℤ) (cost : ℕ)
    → AreLimits p.limits → IsNumbered p q → IsFlowAt q placed totals arcs → numbers.IsOptimal (flows_at q placed totals) potential
    → AreWithin p q totals → AreDualPrices p potential beta → AreOffers p q beta alpha
    → cost ≡ all_cost q.groups.items q.costs.items placed (names_of q) (groups_of q)
    → IsProved p placed (certificate_of p alpha beta cost)
