-- Flows of a problem's points to names, with the arcs of their residual network (Ahuja, Magnanti, Orlin, Network Flows, section
-- 9.2). The numbers of a flow stand by group and then by name; the root is the node after the names.
use Rattle.std.specs.Prelude.{◌≡◌, ◌≢◌, ℕ, ◌<◌, ◌≤◌, ◌+◌, ◌*◌, true, List, length, Option, slice_index}
use Rattle.min_cost_flow.specs.Optimal.{Flows, AreResidual, Pushes}
use Rattle.min_cost_flow.specs.Problem.{sum_to, group_at, may_take, may_take_in, cost_at, names_of}
use Rattle.min_cost_flow.specs.Spans.{AreSpans}
use Rattle.min_cost_flow.specs.declared.problem.FlowProblem.{FlowProblem}
use Rattle.min_cost_flow.specs.declared.flow.Flow.{Flow}
use Rattle.min_cost_flow.specs.declared.span.Span.{Span}
use Rattle.min_cost_flow.specs.Network.{arc_at}
use Rattle.min_cost_flow.specs.declared.arc.Arc.{Arc}

abbrev pub groups_of : FlowProblem → ℕ
groups_of p = length p.groups.items

-- the points of a group at a name, where the numbers stand by group and then by name
abbrev pub cell_at : List ℕ → ℕ → ℕ → ℕ → ℕ
cell_at placed names g v = slice_index placed (g * names + v)

-- the problem, the points placed and their totals, as numbers
abbrev pub flows_at : FlowProblem → List ℕ → List ℕ → Flows
flows_at p placed totals = record {
  groups = groups_of p;
  names = names_of p;
  low = slice_index p.low.items;
  high = slice_index p.high.items;
  allowed = may_take p.groups.items p.costs.items (names_of p);
  cost = cost_at p.groups.items p.costs.items (names_of p);
  flow = cell_at placed (names_of p);
  total = slice_index totals;
}

-- each point of each group is at a name that it may take, the totals are the sums of the columns, and the arcs those of the
-- residual network
pub record IsFlowAt (p : FlowProblem) (numbers sums : List ℕ) (cells : List (Option Arc)) : Type 0 where
  pub placed : length numbers ≡ groups_of p * names_of p
  pub totals : length sums ≡ names_of p
  pub arcs : length cells ≡ (names_of p + 1) * (names_of p + 1)
  pub spent : (g : ℕ) → g < groups_of p → sum_to (names_of p) (cell_at numbers (names_of p) g) ≡ (group_at p.groups.items g).points
  pub columns : (v : ℕ) → v < names_of p → slice_index sums v ≡ sum_to (groups_of p) (λ g. cell_at numbers (names_of p) g v)
  pub free : (g v : ℕ) → g < groups_of p → v < names_of p → 0 < cell_at numbers (names_of p) g v → may_take p.groups.items p.costs.items (names_of p) g v ≡ true
  pub residual : AreResidual (flows_at p numbers sums) (arc_at cells (names_of p + 1))

-- so many points of a group may move from one name to another
pub record IsMoveAt (p : FlowProblem) (numbers : List ℕ) (group from to points : ℕ) : Type 0 where
  pub group_in : group < groups_of p
  pub from_in : from < names_of p
  pub to_in : to < names_of p
  pub apart : from ≢ to
  pub allowed : may_take_in p group to ≡ true
  pub some : 0 < points
  pub enough : points ≤ cell_at numbers (names_of p) group from

-- so many moved from one cell to another
pub record IsMoved (cells cells' : List ℕ) (from to points : ℕ) : Type 0 where
  pub left : slice_index cells' from + points ≡ slice_index cells from
  pub entered : slice_index cells' to ≡ slice_index cells to + points
  pub others : (i : ℕ) → i ≢ from → i ≢ to → slice_index cells' i ≡ slice_index cells i

-- so many points of a group moved from one name to another, and the totals with them
pub record IsPushedAt (p : FlowProblem) (numbers sums numbers' sums' : List ℕ) (group from to points : ℕ) : Type 0 where
  pub pushes : Pushes (flows_at p numbers sums) (flows_at p numbers' sums') group from to points
  pub totals : IsMoved sums sums' from to points

-- the same of a flow
abbrev pub placed_at : FlowProblem → Flow → ℕ → ℕ → ℕ
placed_at p f g v = cell_at f.placed.items (names_of p) g v

abbrev pub total_at : Flow → ℕ → ℕ
total_at f v = slice_index f.totals.items v

abbrev pub flows_of : FlowProblem → Flow → Flows
flows_of p f = flows_at p f.placed.items f.totals.items

-- the tables are a flow, and the spans have its groups
pub record AreFlowTables (p : FlowProblem) (numbers sums : List ℕ) (cells : List (Option Arc)) (group_spans : List Span) : Type 0 where
  pub tables : IsFlowAt p numbers sums cells
  pub spans : AreSpans p.groups.items (names_of p) numbers group_spans

abbrev pub IsFlow : FlowProblem → Flow → Type 0
IsFlow p f = AreFlowTables p f.placed.items f.totals.items f.arcs.items f.spans.items

abbrev pub IsMove : FlowProblem → Flow → ℕ → ℕ → ℕ → ℕ → Type 0
IsMove p f group from to points = IsMoveAt p f.placed.items group from to points

abbrev pub IsPushed : FlowProblem → Flow → Flow → ℕ → ℕ → ℕ → ℕ → Type 0
IsPushed p old new group from to points = IsPushedAt p old.placed.items old.totals.items new.placed.items new.totals.items group from to points
