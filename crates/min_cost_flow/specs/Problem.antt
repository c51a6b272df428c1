-- The transportation problem: groups of points as supplies, the limits of names as demands, and the cost of each switch (Ahuja,
-- Magnanti, Orlin, Network Flows, section 1.2).
use Rattle.std.specs.Prelude.{◌≡◌, ℕ, zero, suc, ◌<◌, ◌≤◌, ◌+◌, ◌*◌, ℤ, pos, ◌*ℤ◌, Bool, true, false, List, length, Option, Some, None, slice_index, slice_index_or}
use Rattle.min_cost_flow.specs.Offered.{IsSwitchCost}
use Rattle.min_cost_flow.specs.declared.problem.Group.{Group}
use Rattle.min_cost_flow.specs.declared.problem.FlowProblem.{FlowProblem}

-- the sum of the first `n` numbers of a function
abbrev pub sum_to : ℕ → (ℕ → ℕ) → ℕ
sum_to zero f = 0
sum_to (suc n) f = sum_to n f + f n

abbrev pub no_group : Group
no_group = record { variant = 0; count = 0; points = 0 }

abbrev pub group_at : List Group → ℕ → Group
group_at groups g = slice_index_or groups g no_group

-- what a switch costs an input, none where it is forbidden; the costs stand by old name and then by new name
abbrev pub switch_cost_at : List (Option ℤ) → ℕ → ℕ → ℕ → Option ℤ
switch_cost_at costs names from to = slice_index_or costs (from * names + to) None

abbrev pub is_allowed : Option ℤ → Bool
is_allowed None = false
is_allowed (Some z) = true

abbrev pub cost_or_zero : Option ℤ → ℤ
cost_or_zero None = pos 0
cost_or_zero (Some z) = z

-- whether the group's points may take the name, and the cost of one of them there
abbrev pub may_take : List Group → List (Option ℤ) → ℕ → ℕ → ℕ → Bool
may_take groups costs names g w = is_allowed (switch_cost_at costs names (group_at groups g).variant w)

abbrev pub cost_at : List Group → List (Option ℤ) → ℕ → ℕ → ℕ → ℤ
cost_at groups costs names g w = pos (group_at groups g).count *ℤ cost_or_zero (switch_cost_at costs names (group_at groups g).variant w)

-- the most inputs at one point, and at all
abbrev pub max_count : ℕ
max_count = 67108864

abbrev pub max_inputs : ℕ
max_inputs = 8589934592

-- the inputs at a group's points
abbrev pub inputs_of : List Group → ℕ → ℕ
inputs_of groups g = (group_at groups g).count * (group_at groups g).points

-- groups stand by old variant and then by count, and their points may stay at no cost
pub record AreGroups (names : ℕ) (costs : List (Option ℤ)) (groups : List Group) : Type 0 where
  pub variant : (g : ℕ) → g < length groups → (group_at groups g).variant < names
  pub stay : (g : ℕ) → g < length groups → switch_cost_at costs names (group_at groups g).variant (group_at groups g).variant ≡ Some (pos 0)
  pub count : (g : ℕ) → g < length groups → (group_at groups g).count ≤ max_count
  pub rising : (g h : ℕ) → g < h → h < length groups → (group_at groups g).variant ≡ (group_at groups h).variant → (group_at groups g).count ≤ (group_at groups h).count
  pub few : length groups ≤ 1000000
  pub weight : sum_to (length groups) (λ g. (group_at groups g).points) ≤ 1000000
  pub inputs : sum_to (length groups) (inputs_of groups) ≤ max_inputs

-- a switch cost, or none, for each two names
pub record AreSwitchCosts (names : ℕ) (costs : List (Option ℤ)) : Type 0 where
  pub size : length costs ≡ names * names
  pub each : (i : ℕ) (switch_cost : ℤ) → i < names * names → slice_index_or costs i None ≡ Some switch_cost → IsSwitchCost switch_cost

-- groups, and the switch costs by which they are charged
pub record AreSupplies (names : ℕ) (costs : List (Option ℤ)) (groups : List Group) : Type 0 where
  pub grouped : AreGroups names costs groups
  pub priced : AreSwitchCosts names costs

abbrev pub names_of : FlowProblem → ℕ
names_of p = length p.high.items

-- the same of the tables of a problem
abbrev pub may_take_in : FlowProblem → ℕ → ℕ → Bool
may_take_in p g w = may_take p.groups.items p.costs.items (names_of p) g w

abbrev pub cost_in : FlowProblem → ℕ → ℕ → ℤ
cost_in p g w = cost_at p.groups.items p.costs.items (names_of p) g w

pub record IsFlowProblem (p : FlowProblem) : Type 0 where
  pub names : names_of p ≤ 64
  pub lows : length p.low.items ≡ names_of p
  pub ordered : (v : ℕ) → v < names_of p → slice_index p.low.items v ≤ slice_index p.high.items v
  pub asked : sum_to (names_of p) (slice_index p.low.items) ≤ sum_to (length p.groups.items) (λ g. (group_at p.groups.items g).points)
  pub costs : AreSwitchCosts (names_of p) p.costs.items
  pub groups : AreGroups (names_of p) p.costs.items p.groups.items
