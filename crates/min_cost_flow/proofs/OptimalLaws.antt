-- Optimality by potentials and by reduced costs, and points that move along an arc of reduced cost 0.
use Rattle.std.proofs.Common.{◌≡◌, ◌≢◌, ℕ, ◌+◌, ◌<◌, ◌≤◌, ⊎_elim, ℤ, ◌+ℤ◌, ◌≤ℤ◌, true, Option, Some, None, sym, ap, ◌∙◌, arith}
use Rattle.std.proofs.lemmas.Bool.{cases_eq, cases_lt}
use Rattle.std.proofs.lemmas.Int.{ints}
use Rattle.min_cost_flow.specs.Network.{HasNonNegativeReducedCosts}
use Rattle.min_cost_flow.specs.declared.arc.Arc.{Arc}
use Rattle.min_cost_flow.specs.Optimal.{Flows, AreLeast, IsOptimal, AreResidual, Pushes}

pub none_there : (a : Arc) → None ≡ Some a → ⊥
none_there a clash = cc

module _ (f : Flows) (arc : ℕ → ℕ → Option Arc) (potential : ℕ → ℤ) (residual : AreResidual f arc) where
  between : IsOptimal f potential → (v w : ℕ) (a : Arc) → v < f.names → w < f.names → arc v w ≡ Some a → potential w ≤ℤ (potential v +ℤ a.cost)
  between optimal v w a v_in w_in is =
      omega (arith, ints, optimal.least a.group v w (residual.group v w a v_in w_in is) v_in w_in (residual.there v w a v_in w_in is) (residual.allowed v w a v_in w_in is), residual.cost v w a v_in w_in is)

  from_root : IsOptimal f potential → (w : ℕ) (a : Arc) → w < f.names + 1 → arc f.names w ≡ Some a → potential w ≤ℤ (potential f.names +ℤ a.cost)
  from_root optimal w a w_in is =
      ⊎_elim
      (λ (name : w < f.names). let s = residual.spare w a name is in omega (arith, ints, optimal.spare w name s.0, s.1))
      (λ (root : f.names ≤ w).
      let same : w ≡ f.names = omega (arith, w_in, root) in
      absurd (none_there a (sym residual.none ∙ (ap (arc f.names) (sym same) ∙ is))))
      (cases_lt w f.names)

  from_name : IsOptimal f potential → (v w : ℕ) (a : Arc) → v < f.names → w < f.names + 1 → arc v w ≡ Some a → potential w ≤ℤ (potential v +ℤ a.cost)
  from_name optimal v w a v_in w_in is =
      ⊎_elim
      (λ (name : w < f.names). between optimal v w a v_in name is)
      (λ (root : f.names ≤ w).
      let same : w ≡ f.names = omega (arith, w_in, root) in
      let r = residual.room v a v_in (ap (arc v) (sym same) ∙ is) in
      omega (arith, ints, optimal.room v v_in r.0, r.1, ap potential same))
      (cases_lt w f.names)

  pub reduced_from_optimal : IsOptimal f potential → HasNonNegativeReducedCosts (f.names + 1) arc potential
  reduced_from_optimal optimal = record {
    least = λ v w a v_in w_in is.
        ⊎_elim
        (λ (name : v < f.names). from_name optimal v w a name w_in is)
        (λ (root : f.names ≤ v).
        let same : v ≡ f.names = omega (arith, v_in, root) in
        omega (arith, ints, from_root optimal w a w_in (ap (λ n. arc n w) (sym same) ∙ is), ap potential same))
        (cases_lt v f.names);
  }

  pub optimal_from_reduced : HasNonNegativeReducedCosts (f.names + 1) arc potential → IsOptimal f potential
  optimal_from_reduced reduced = record {
    least = λ g v w g_in v_in w_in some allowed.
        let a = residual.least g v w g_in v_in w_in some allowed in
        omega (arith, ints, a.2, reduced.least v w a.0 (omega (arith, v_in)) (omega (arith, w_in)) a.1);
    room = λ v v_in less.
        let a = residual.has_room v v_in less in
        omega (arith, ints, a.2, reduced.least v f.names a.0 (omega (arith, v_in)) (omega arith) a.1);
    spare = λ v v_in less.
        let a = residual.has_spare v v_in less in
        omega (arith, ints, a.2, reduced.least f.names v a.0 (omega arith) (omega (arith, v_in)) a.1);
  }

module _ (old new : Flows) (potential : ℕ → ℤ) (group from to points : ℕ) (least : AreLeast old potential) (push : Pushes old new group from to points)
    (group_in : group < old.groups) (from_in : from < old.names) (to_in : to < old.names) (apart : from ≢ to) (some : 0 < points) (reduced_zero : (old.cost group from +ℤ potential to) ≡ (old.cost group to +ℤ potential from)) where
  at_from : (w : ℕ) → w < old.names → old.allowed group w ≡ true → (old.cost group from +ℤ potential w) ≤ℤ (old.cost group w +ℤ potential from)
  at_from w w_in allowed = least group from w group_in from_in w_in (omega (arith, push.left, some)) allowed

  still_least : (g v w : ℕ) → g < old.groups → v < old.names → w < old.names → 0 < new.flow g v → old.allowed g w ≡ true → (old.cost g v +ℤ potential w) ≤ℤ (old.cost g w +ℤ potential v)
  still_least g v w g_in v_in w_in there allowed =
      ⊎_elim
      (λ (same : g ≡ group).
      let by_group : old.allowed group w ≡ true = ap (λ h. old.allowed h w) (sym same) ∙ allowed in
      ⊎_elim
      (λ (moved : v ≡ to).
      omega (arith, ints, at_from w w_in by_group, reduced_zero, ap (λ h. old.cost h v) same, ap (old.cost group) moved, ap (λ h. old.cost h w) same, ap potential moved))
      (λ (not_to : v ≡ to → ⊥).
      ⊎_elim
      (λ (left : v ≡ from).
      omega (arith, ints, at_from w w_in by_group, ap (λ h. old.cost h v) same, ap (old.cost group) left, ap (λ h. old.cost h w) same, ap potential left))
      (λ (not_from : v ≡ from → ⊥).
      least g v w g_in v_in w_in (omega (arith, there, push.others g v v_in (λ s is. not_from is) (λ s is. not_to is))) allowed)
      (cases_eq v from))
      (cases_eq v to))
      (λ (other : g ≡ group → ⊥).
      least g v w g_in v_in w_in (omega (arith, there, push.others g v v_in (λ is s. other is) (λ is s. other is))) allowed)
      (cases_eq g group)

  pub least_after : AreLeast new potential
  least_after g v w g_in v_in w_in there allowed =
      let h_in : g < old.groups = omega (arith, g_in, push.groups) in
      let x_in : v < old.names = omega (arith, v_in, push.names) in
      let y_in : w < old.names = omega (arith, w_in, push.names) in
      omega (arith, ints, still_least g v w h_in x_in y_in there (sym (push.allowed g w) ∙ allowed), push.cost g v, push.cost g w)
