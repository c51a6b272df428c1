use Rattle.std.proofs.Common.{◌≡◌, ℕ, ◌<◌, ◌≤◌, ◌⊎◌, get_or}
use Rattle.min_cost_flow.specs.Flow.{placed_at}
use Rattle.min_cost_flow.specs.declared.augmenting.Step.{Step}
use Rattle.min_cost_flow.proofs.MovedAlong.{no_step}
use Rattle.min_cost_flow.proofs.augmenting.bottleneck.Given as goal

abbrev pub invariant-loop-step : goal.invariant-loop-step
invariant-loop-step l = record {
  most : l.points ≤ l.most;
  wide : (j : ℕ) (d : Step) → j < l.step-index → l.points ≤ placed_at l.problem l.flow (get_or l.steps j d).group (get_or l.steps j d).from;
  narrow : (l.points ≡ l.most) ⊎ ((j : ℕ) × (j < l.step-index) × (l.points ≡ placed_at l.problem l.flow (get_or l.steps j no_step).group (get_or l.steps j no_step).from));
  some : 0 < l.most → 0 < l.points;
}
