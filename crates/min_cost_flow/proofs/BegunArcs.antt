-- The arcs of a flow are made name by name.
use Rattle.std.proofs.Common.{◌≡◌, ℕ, ◌+◌, ◌<◌, ◌≤◌, ⊎_elim, List, get_or, Option, None, refl, sym, ◌∙◌, subst, arith}
use Rattle.std.proofs.lemmas.Bool.{cases_eq}
use Rattle.min_cost_flow.specs.Problem.{cost_at, may_take, names_of}
use Rattle.min_cost_flow.specs.declared.problem.FlowProblem.{FlowProblem}
use Rattle.min_cost_flow.specs.Flow.{cell_at, groups_of}
use Rattle.min_cost_flow.specs.Residual.{ChangesRootArcs, ChangesRow, HasRootArcs, HasRow}
use Rattle.min_cost_flow.proofs.ResidualRows.{root_arcs_stay, row_stays}
use Rattle.min_cost_flow.specs.Network.{arc_at}
use Rattle.min_cost_flow.specs.declared.arc.Arc.{Arc}

-- those of the names below are right
pub record ArcsBelow (p : FlowProblem) (numbers sums : List ℕ) (name : ℕ) (cells : List (Option Arc)) : Type 0 where
  pub rows : (v : ℕ) → v < name → v < names_of p → HasRow p (λ g. cell_at numbers (names_of p) g v) v cells
  pub root : (v : ℕ) → v < name → v < names_of p → HasRootArcs p (get_or sums v 0) v cells
  pub none : arc_at cells (names_of p + 1) (names_of p) (names_of p) ≡ None

pub one_more : (p : FlowProblem) (numbers sums : List ℕ) (name : ℕ) (c0 c1 c2 : List (Option Arc)) → name < names_of p → ArcsBelow p numbers sums name c0 → HasRow p (λ g. cell_at numbers (names_of p) g name) name c1 → ChangesRow (names_of p) name c0 c1
    → HasRootArcs p (get_or sums name 0) name c2 → ChangesRootArcs (names_of p) name c1 c2 → ArcsBelow p numbers sums (name + 1) c2
one_more p numbers sums name c0 c1 c2 name_in before row row_others root root_others =
    let last_not : (v : ℕ) → v < names_of p → names_of p ≡ v → ⊥ = λ v v_in is. omega (arith, v_in, is) in
    let between : (v w : ℕ) → v < names_of p → w < names_of p → arc_at c2 (names_of p + 1) v w ≡ arc_at c1 (names_of p + 1) v w =
    λ v w v_in w_in. root_others v w (omega (arith, v_in)) (omega (arith, w_in)) (λ _ is. absurd (last_not w w_in (sym is))) (λ is _. absurd (last_not v v_in (sym is))) in
    let stays : (v : ℕ) → v < names_of p → (old : List (Option Arc)) → ((w : ℕ) → w < names_of p → arc_at c2 (names_of p + 1) v w ≡ arc_at old (names_of p + 1) v w) → HasRow p (λ g. cell_at numbers (names_of p) g v) v old → HasRow p (λ g. cell_at numbers (names_of p) g v) v c2 =
    λ v v_in old same are.
    row_stays (groups_of p) (names_of p) (may_take p.groups.items p.costs.items (names_of p)) (cost_at p.groups.items p.costs.items (names_of p)) v (λ g. cell_at numbers (names_of p) g v) (λ g. cell_at numbers (names_of p) g v)
    (arc_at old (names_of p + 1) v) (arc_at c2 (names_of p + 1) v) are (λ g some. some) (λ g some. some) same in
    let far : (v w : ℕ) → v ≤ names_of p → w ≤ names_of p → (v ≡ name → ⊥) → (w ≡ name → ⊥) → arc_at c2 (names_of p + 1) v w ≡ arc_at c0 (names_of p + 1) v w =
    λ v w v_in w_in not w_not. root_others v w v_in w_in (λ is _. not is) (λ _ is. w_not is) ∙ row_others v w v_in w_in (λ is _. not is) in
    record {
      rows = λ v below v_in.
          ⊎_elim
          (λ (is : v ≡ name). stays v v_in c1 (λ w w_in. between v w v_in w_in) (subst (λ x. HasRow p (λ g. cell_at numbers (names_of p) g x) x c1) (sym is) row))
          (λ (not : v ≡ name → ⊥). stays v v_in c0 (λ w w_in. between v w v_in w_in ∙ row_others v w (omega (arith, v_in)) (omega (arith, w_in)) (λ is _. not is)) (before.rows v (omega (arith, below, not)) v_in))
          (cases_eq v name);
      root = λ v below v_in.
          ⊎_elim
          (λ (is : v ≡ name). subst (λ x. HasRootArcs p (get_or sums x 0) x c2) (sym is) root)
          (λ (not : v ≡ name → ⊥).
          root_arcs_stay p (get_or sums v 0) (get_or sums v 0) v c0 c2 (before.root v (omega (arith, below, not)) v_in) refl (far v (names_of p) (omega (arith, v_in)) (omega arith) not (last_not name name_in))
          (far (names_of p) v (omega arith) (omega (arith, v_in)) (last_not name name_in) not))
          (cases_eq v name);
      none = far (names_of p) (names_of p) (omega arith) (omega arith) (last_not name name_in) (last_not name name_in) ∙ before.none;
    }
