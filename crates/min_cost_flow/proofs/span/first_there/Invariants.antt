use Rattle.std.proofs.Common.{ℕ, ◌<◌, ◌≤◌}
use Rattle.min_cost_flow.specs.Spans.{IsThere}
use Rattle.min_cost_flow.proofs.span.first_there.Given as goal

abbrev pub invariant-loop-group : goal.invariant-loop-group
invariant-loop-group l = (g : ℕ) → l.fn.span.first ≤ g → g < l.group → IsThere l.groups l.placed l.names l.name l.variant g → ⊥
