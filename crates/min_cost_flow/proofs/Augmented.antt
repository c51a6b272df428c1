-- What an augmentation does to the totals.
use Rattle.std.proofs.Common.{◌≡◌, ℕ, ◌+◌, ◌-◌, ◌<◌, ◌⊎◌, inl, inr, ⊎_elim, ℤ, ◌+ℤ◌, List, get_or, min, Some, refl, sym, ap, arith}
use Rattle.min_cost_flow.specs.Problem.{names_of}
use Rattle.min_cost_flow.specs.declared.problem.FlowProblem.{FlowProblem}
use Rattle.min_cost_flow.specs.Flow.{total_at}
use Rattle.min_cost_flow.specs.declared.flow.Flow.{Flow}
use Rattle.min_cost_flow.specs.Network.{arc_at}
use Rattle.min_cost_flow.specs.declared.arc.Arc.{Arc}
use Rattle.min_cost_flow.specs.Paths.{IsTraced, IsAugmented, IsBottleneck}
use Rattle.min_cost_flow.specs.declared.augmenting.Path.{Path}
use Rattle.min_cost_flow.proofs.MovedAlong.{at_name, same_name, other_name}

pub start_over : (p : FlowProblem) (f : Flow) (potential : ℕ → ℤ) (rank : ℕ → ℕ) (limits : List ℕ) (source last : ℕ) (path : Path) → IsTraced p f potential rank source last path
    → ((v : ℕ) → v < names_of p → (v ≡ source) ⊎ ((rank (names_of p) < names_of p + 1) × ((a : Arc) × (arc_at f.arcs.items (names_of p + 1) (names_of p) v ≡ Some a))) → get_or limits v 0 < total_at f v) → get_or limits path.first 0 < total_at f path.first
start_over p f potential rank limits source last path traced above =
    above path.first traced.steps.begins (⊎_elim
    (λ (is : path.first ≡ source). inl is)
    (λ (next : (a : Arc) × (arc_at f.arcs.items (names_of p + 1) (names_of p) path.first ≡ Some a) × (potential path.first ≡ (potential (names_of p) +ℤ a.cost))).
    ⊎_elim (λ (is : path.first ≡ source). inl is) (λ (settled : rank (names_of p) < names_of p + 1). inr (settled, (next.0, next.1))) traced.settled)
    traced.start)

pub augmented : (p : FlowProblem) (old new : Flow) (potential : ℕ → ℤ) (rank : ℕ → ℕ) (limits : List ℕ) (source last points : ℕ) (path : Path) → IsTraced p old potential rank source last path
    → ((v : ℕ) → v < names_of p → (v ≡ source) ⊎ ((rank (names_of p) < names_of p + 1) × ((a : Arc) × (arc_at old.arcs.items (names_of p + 1) (names_of p) v ≡ Some a))) → get_or limits v 0 < total_at old v) → total_at old last < get_or limits last 0
    → IsBottleneck p old path.steps.items (min (total_at old path.first - get_or limits path.first 0) (get_or limits last 0 - total_at old last)) points → 0 < points
    → ((v : ℕ) → total_at new v + at_name v path.first points ≡ total_at old v + at_name v last points)
    → IsAugmented p old new potential rank limits source last
augmented p old new potential rank limits source last points path traced above below bottleneck some totals =
    let first = path.first in
    let over = start_over p old potential rank limits source last path traced above in
    let apart : first ≡ last → ⊥ = λ same. omega (arith, over, below, ap (total_at old) same, ap (λ v. get_or limits v 0) same) in
    let few = bottleneck.within in
    let at_first = totals first in
    let at_last = totals last in
    let left : total_at new first + points ≡ total_at old first = omega (arith, at_first, same_name first first points refl, other_name first last points apart) in
    let entered : total_at new last ≡ total_at old last + points = omega (arith, at_last, same_name last last points refl, other_name last first points (λ h. apart (sym h))) in
    record {
      first = first;
      points = points;
      steps = path.steps.items;
      path = traced.steps;
      bottleneck = bottleneck;
      begins = traced.steps.begins;
      start = traced.start;
      settled = traced.settled;
      apart = apart;
      some = some;
      left = left;
      entered = entered;
      others = λ v not_first not_last. omega (arith, totals v, other_name v first points not_first, other_name v last points not_last);
      above = omega (arith, few, left, over);
      below = omega (arith, few, entered, below);
    }
