use Rattle.std.proofs.Common.{ℕ, ◌<◌, ◌≤◌}
use Rattle.min_cost_flow.specs.Spans.{IsThere}
use Rattle.min_cost_flow.proofs.span.end_there.Given as goal

abbrev pub invariant-loop-group : goal.invariant-loop-group
invariant-loop-group l = (g : ℕ) → l.group ≤ g → g < l.fn.span.end → IsThere l.groups l.placed l.names l.name l.variant g → ⊥
