-- The flow after points moved and the arcs of both names were brought up to date.
use Rattle.std.proofs.Common.{◌≡◌, ◌≢◌, ℕ, ◌+◌, ◌<◌, ◌≤◌, ⊎_elim, List, get_or, Option, refl, sym, ◌∙◌, subst, arith}
use Rattle.std.proofs.lemmas.Bool.{cases_eq}
use Rattle.min_cost_flow.specs.Optimal.{AreResidual}
use Rattle.min_cost_flow.specs.Problem.{cost_at, may_take, names_of}
use Rattle.min_cost_flow.specs.declared.problem.FlowProblem.{FlowProblem}
use Rattle.min_cost_flow.specs.Flow.{cell_at, flows_at, groups_of}
use Rattle.min_cost_flow.specs.Residual.{ChangesGroup, ChangesRootArcs, ChangesRow, HasRootArcs, HasRow}
use Rattle.min_cost_flow.proofs.ResidualRows.{root_arcs_of, root_arcs_stay, residual_of, row_of, row_stays}
use Rattle.min_cost_flow.specs.Network.{arc_at}
use Rattle.min_cost_flow.specs.declared.arc.Arc.{Arc}

module _ (p : FlowProblem) (numbers sums numbers' sums' : List ℕ) (c0 c1 c2 c3 c4 : List (Option Arc)) (residual : AreResidual (flows_at p numbers sums) (arc_at c0 (names_of p + 1)))
    (group from to : ℕ) (from_in : from < names_of p) (to_in : to < names_of p) (apart : from ≢ to)
    (was : 0 < cell_at numbers (names_of p) group from) (is_now : 0 < cell_at numbers' (names_of p) group to)
    (stays : (g v : ℕ) → v < names_of p → (g ≡ group → v ≡ from → ⊥) → (g ≡ group → v ≡ to → ⊥) → cell_at numbers' (names_of p) g v ≡ cell_at numbers (names_of p) g v)
    (sum_others : (v : ℕ) → v ≢ from → v ≢ to → get_or sums' v 0 ≡ get_or sums v 0)
    (leave_row : (old : ℕ → ℕ) → 0 < old group → ChangesGroup group old (λ g. cell_at numbers' (names_of p) g from) → HasRow p old from c0 → HasRow p (λ g. cell_at numbers' (names_of p) g from) from c1)
    (leave_others : ChangesRow (names_of p) from c0 c1)
    (arrive_row : (old now : ℕ → ℕ) → old group ≡ cell_at numbers (names_of p) group to → 0 < now group → ChangesGroup group old now → HasRow p old to c1 → HasRow p now to c2)
    (arrive_others : ChangesRow (names_of p) to c1 c2)
    (from_root : HasRootArcs p (get_or sums' from 0) from c3) (from_others : ChangesRootArcs (names_of p) from c2 c3)
    (to_root : HasRootArcs p (get_or sums' to 0) to c4) (to_others : ChangesRootArcs (names_of p) to c3 c4) where
  -- arcs between names are not those of the root
  between : (v w : ℕ) → v < names_of p → w < names_of p → arc_at c4 (names_of p + 1) v w ≡ arc_at c2 (names_of p + 1) v w
  between v w v_in w_in =
      to_others v w (omega (arith, v_in)) (omega (arith, w_in)) (λ _ last. absurd (omega (arith, w_in, last))) (λ last _. absurd (omega (arith, v_in, last)))
      ∙ from_others v w (omega (arith, v_in)) (omega (arith, w_in)) (λ _ last. absurd (omega (arith, w_in, last))) (λ last _. absurd (omega (arith, v_in, last)))

  changed : (v : ℕ) → v < names_of p → ChangesGroup group (λ g. cell_at numbers (names_of p) g v) (λ g. cell_at numbers' (names_of p) g v)
  changed v v_in g not = stays g v v_in (λ is _. not is) (λ is _. not is)

  to_row : HasRow p (λ g. cell_at numbers' (names_of p) g to) to c4
  to_row =
      let first = row_stays (groups_of p) (names_of p) (may_take p.groups.items p.costs.items (names_of p)) (cost_at p.groups.items p.costs.items (names_of p)) to (λ g. cell_at numbers (names_of p) g to) (λ g. cell_at numbers (names_of p) g to)
      (arc_at c0 (names_of p + 1) to) (arc_at c1 (names_of p + 1) to) (row_of p numbers sums c0 residual to to_in) (λ g some. some) (λ g some. some)
      (λ w w_in. leave_others to w (omega (arith, to_in)) (omega (arith, w_in)) (λ is _. apart (sym is))) in
      row_stays (groups_of p) (names_of p) (may_take p.groups.items p.costs.items (names_of p)) (cost_at p.groups.items p.costs.items (names_of p)) to (λ g. cell_at numbers' (names_of p) g to) (λ g. cell_at numbers' (names_of p) g to)
      (arc_at c2 (names_of p + 1) to) (arc_at c4 (names_of p + 1) to) (arrive_row (λ g. cell_at numbers (names_of p) g to) (λ g. cell_at numbers' (names_of p) g to) refl is_now (changed to to_in) first)
      (λ g some. some) (λ g some. some) (λ w w_in. between to w to_in w_in)

  from_row : HasRow p (λ g. cell_at numbers' (names_of p) g from) from c4
  from_row =
      row_stays (groups_of p) (names_of p) (may_take p.groups.items p.costs.items (names_of p)) (cost_at p.groups.items p.costs.items (names_of p)) from (λ g. cell_at numbers' (names_of p) g from) (λ g. cell_at numbers' (names_of p) g from)
      (arc_at c1 (names_of p + 1) from) (arc_at c4 (names_of p + 1) from)
      (leave_row (λ g. cell_at numbers (names_of p) g from) was (changed from from_in) (row_of p numbers sums c0 residual from from_in))
      (λ g some. some) (λ g some. some) (λ w w_in. between from w from_in w_in ∙ arrive_others from w (omega (arith, from_in)) (omega (arith, w_in)) (λ is _. apart is))

  other_row : (v : ℕ) → v < names_of p → v ≢ from → v ≢ to → HasRow p (λ g. cell_at numbers' (names_of p) g v) v c4
  other_row v v_in not_from not_to =
      row_stays (groups_of p) (names_of p) (may_take p.groups.items p.costs.items (names_of p)) (cost_at p.groups.items p.costs.items (names_of p)) v (λ g. cell_at numbers (names_of p) g v) (λ g. cell_at numbers' (names_of p) g v)
      (arc_at c0 (names_of p + 1) v) (arc_at c4 (names_of p + 1) v) (row_of p numbers sums c0 residual v v_in)
      (λ g some. omega (arith, some, stays g v v_in (λ _. not_from) (λ _. not_to))) (λ g some. omega (arith, some, stays g v v_in (λ _. not_from) (λ _. not_to)))
      (λ w w_in. between v w v_in w_in ∙ (arrive_others v w (omega (arith, v_in)) (omega (arith, w_in)) (λ is _. not_to is) ∙ leave_others v w (omega (arith, v_in)) (omega (arith, w_in)) (λ is _. not_from is)))

  rows : (v : ℕ) → v < names_of p → HasRow p (λ g. cell_at numbers' (names_of p) g v) v c4
  rows v v_in =
      ⊎_elim
      (λ (is : v ≡ from). subst (λ x. HasRow p (λ g. cell_at numbers' (names_of p) g x) x c4) (sym is) from_row)
      (λ (not_from : v ≡ from → ⊥).
      ⊎_elim
      (λ (is : v ≡ to). subst (λ x. HasRow p (λ g. cell_at numbers' (names_of p) g x) x c4) (sym is) to_row)
      (λ (not_to : v ≡ to → ⊥). other_row v v_in not_from not_to)
      (cases_eq v to))
      (cases_eq v from)

  -- the arcs between other nodes and the root
  far : (v w : ℕ) → v ≤ names_of p → w ≤ names_of p → v ≢ from → v ≢ to → w ≢ from → w ≢ to → arc_at c4 (names_of p + 1) v w ≡ arc_at c0 (names_of p + 1) v w
  far v w v_in w_in not_from not_to w_not_from w_not_to =
      to_others v w v_in w_in (λ is _. not_to is) (λ _ is. w_not_to is)
      ∙ (from_others v w v_in w_in (λ is _. not_from is) (λ _ is. w_not_from is) ∙ (arrive_others v w v_in w_in (λ is _. not_to is) ∙ leave_others v w v_in w_in (λ is _. not_from is)))

  last_not : (v : ℕ) → v < names_of p → names_of p ≢ v
  last_not v v_in is = omega (arith, v_in, is)

  not_last : (v : ℕ) → v < names_of p → v ≢ names_of p
  not_last v v_in is = omega (arith, v_in, is)

  root : (v : ℕ) → v < names_of p → HasRootArcs p (get_or sums' v 0) v c4
  root v v_in =
      ⊎_elim
      (λ (is : v ≡ to). subst (λ x. HasRootArcs p (get_or sums' x 0) x c4) (sym is) to_root)
      (λ (not_to : v ≡ to → ⊥).
      ⊎_elim
      (λ (is : v ≡ from).
      subst (λ x. HasRootArcs p (get_or sums' x 0) x c4) (sym is)
      (root_arcs_stay p (get_or sums' from 0) (get_or sums' from 0) from c3 c4 from_root refl
      (to_others from (names_of p) (omega (arith, from_in)) (omega arith) (λ i _. apart i) (λ i _. absurd (not_last from from_in i)))
      (to_others (names_of p) from (omega arith) (omega (arith, from_in)) (λ i _. absurd (last_not to to_in i)) (λ _ i. apart i))))
      (λ (not_from : v ≡ from → ⊥).
      root_arcs_stay p (get_or sums v 0) (get_or sums' v 0) v c0 c4 (root_arcs_of p numbers sums c0 residual v v_in) (sum_others v not_from not_to)
      (far v (names_of p) (omega (arith, v_in)) (omega arith) not_from not_to (last_not from from_in) (last_not to to_in))
      (far (names_of p) v (omega arith) (omega (arith, v_in)) (last_not from from_in) (last_not to to_in) not_from not_to))
      (cases_eq v from))
      (cases_eq v to)

  pub residual_after : AreResidual (flows_at p numbers' sums') (arc_at c4 (names_of p + 1))
  residual_after =
      residual_of p numbers' sums' c4 rows root
      (far (names_of p) (names_of p) (omega arith) (omega arith) (last_not from from_in) (last_not to to_in) (last_not from from_in) (last_not to to_in) ∙ residual.none)
