-- The flow in which each point keeps its old variant, and the tables that it is put into.
use Rattle.std.specs.Prelude.{◌≡◌, ℕ, ◌*◌, ◌==◌, List, length, Option, slice_index, if◌then◌else◌}
use Rattle.min_cost_flow.specs.Flow.{groups_of}
use Rattle.min_cost_flow.specs.Problem.{group_at, names_of}
use Rattle.min_cost_flow.specs.Residual.{HasNoArcs}
use Rattle.min_cost_flow.specs.Spans.{HasNoSpans}
use Rattle.min_cost_flow.specs.declared.problem.FlowProblem.{FlowProblem}
use Rattle.min_cost_flow.specs.declared.problem.Group.{Group}
use Rattle.min_cost_flow.specs.declared.span.Span.{Span}
use Rattle.min_cost_flow.specs.declared.arc.Arc.{Arc}

-- the points of a group at a name: all at its old variant, none at another
abbrev pub at_home : List Group → ℕ → ℕ → ℕ
at_home groups g v = if v == (group_at groups g).variant then (group_at groups g).points else 0

-- no group has points at a name
pub record HasNoPoints (groups names : ℕ) (numbers sums : List ℕ) : Type 0 where
  pub placed : length numbers ≡ groups * names
  pub totals : length sums ≡ names
  pub none_placed : (i : ℕ) → slice_index numbers i ≡ 0
  pub no_totals : (v : ℕ) → slice_index sums v ≡ 0

-- no points, no arcs, and no group in a span
pub record AreBlank (p : FlowProblem) (numbers sums : List ℕ) (cells : List (Option Arc)) (group_spans : List Span) : Type 0 where
  pub points : HasNoPoints (groups_of p) (names_of p) numbers sums
  pub arcs : HasNoArcs (names_of p) cells
  pub spans : HasNoSpans (names_of p) group_spans
