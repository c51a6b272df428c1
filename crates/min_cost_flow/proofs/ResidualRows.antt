-- The arcs of a residual network by the names that they leave, and how they are kept.
use Rattle.std.proofs.Common.{◌≡◌, ℕ, ◌+◌, ◌<◌, ⊎_elim, inl, inr, ℤ, Bool, List, get_or, Option, Some, None, sym, ap, ◌∙◌, subst, arith}
use Rattle.std.proofs.lemmas.Bool.{cases_eq}
use Rattle.std.proofs.lemmas.Int.{ints}
use Rattle.min_cost_flow.specs.Optimal.{AreResidual}
use Rattle.min_cost_flow.specs.Problem.{names_of}
use Rattle.min_cost_flow.specs.declared.problem.FlowProblem.{FlowProblem}
use Rattle.min_cost_flow.specs.Residual.{IsRow, IsMoveOfGroup, TakesMoves}
use Rattle.min_cost_flow.specs.Flow.{cell_at, flows_at}
use Rattle.min_cost_flow.specs.Residual.{ChangesGroup, HasRootArcs, HasRow, IsRootArc}
use Rattle.min_cost_flow.specs.Network.{arc_at}
use Rattle.min_cost_flow.specs.declared.arc.Arc.{Arc}

module _ (groups names : ℕ) (may : ℕ → ℕ → Bool) (charge : ℕ → ℕ → ℤ) (v : ℕ) (old now : ℕ → ℕ) (arc arc' : ℕ → Option Arc) where
  -- the same groups have points here, and the arcs stay
  pub row_stays : IsRow groups names may charge old v arc → ((g : ℕ) → 0 < old g → 0 < now g) → ((g : ℕ) → 0 < now g → 0 < old g) → ((w : ℕ) → w < names → arc' w ≡ arc w) → IsRow groups names may charge now v arc'
  row_stays row keeps had same = record {
    group = λ w a w_in is. row.group w a w_in (sym (same w w_in) ∙ is);
    there = λ w a w_in is. keeps a.group (row.there w a w_in (sym (same w w_in) ∙ is));
    allowed = λ w a w_in is. row.allowed w a w_in (sym (same w w_in) ∙ is);
    cost = λ w a w_in is. row.cost w a w_in (sym (same w w_in) ∙ is);
    least = λ g w g_in w_in some allowed. let l = row.least g w g_in w_in (had g some) allowed in (l.0, same w w_in ∙ l.1, l.2);
  }

  -- a group enters
  pub row_takes : (group : ℕ) → group < groups → IsRow groups names may charge old v arc → 0 < now group → ChangesGroup group old now → TakesMoves names may charge group v arc arc' → IsRow groups names may charge now v arc'
  row_takes group group_in row some changes wide =
      let keeps : (g : ℕ) → 0 < old g → 0 < now g = λ g had. ⊎_elim (λ (is : g ≡ group). omega (arith, ap now is, some)) (λ (not : g ≡ group → ⊥). omega (arith, changes g not, had)) (cases_eq g group) in
      record {
        group = λ w a w_in is. ⊎_elim (λ (was : arc w ≡ Some a). row.group w a w_in was) (λ (move : IsMoveOfGroup may charge group v w a). omega (arith, move.same_group, group_in)) (wide.change w a w_in is);
        there = λ w a w_in is. ⊎_elim (λ (was : arc w ≡ Some a). keeps a.group (row.there w a w_in was)) (λ (move : IsMoveOfGroup may charge group v w a). omega (arith, ap now move.same_group, some)) (wide.change w a w_in is);
        allowed = λ w a w_in is. ⊎_elim (λ (was : arc w ≡ Some a). row.allowed w a w_in was) (λ (move : IsMoveOfGroup may charge group v w a). ap (λ g. may g w) move.same_group ∙ move.allowed) (wide.change w a w_in is);
        cost = λ w a w_in is.
            ⊎_elim
            (λ (was : arc w ≡ Some a). row.cost w a w_in was)
            (λ (move : IsMoveOfGroup may charge group v w a). omega (arith, ints, move.cost, ap (λ g. charge g v) move.same_group, ap (λ g. charge g w) move.same_group))
            (wide.change w a w_in is);
        least = λ g w g_in w_in here allowed.
            ⊎_elim
            (λ (is : g ≡ group).
            let c = wide.covers w w_in (ap (λ h. may h w) (sym is) ∙ allowed) in
            (c.0, c.1, omega (arith, ints, c.2, ap (λ h. charge h v) is, ap (λ h. charge h w) is)))
            (λ (not : g ≡ group → ⊥).
            let l = row.least g w g_in w_in (omega (arith, changes g not, here)) allowed in
            let d = wide.less w l.0 w_in l.1 in
            (d.0, d.1, omega (arith, ints, l.2, d.2)))
            (cases_eq g group);
      }

-- the same arcs under another name
pub widened_same : (names : ℕ) (may : ℕ → ℕ → Bool) (charge : ℕ → ℕ → ℤ) (group v : ℕ) (old new old' new' : ℕ → Option Arc) → ((w : ℕ) → w < names → old' w ≡ old w) → ((w : ℕ) → w < names → new' w ≡ new w)
    → TakesMoves names may charge group v old new → TakesMoves names may charge group v old' new'
widened_same names may charge group v old new old' new' old_is new_is wide = record {
  change = λ w a w_in is. ⊎_elim (λ (was : old w ≡ Some a). inl (old_is w w_in ∙ was)) (λ (move : IsMoveOfGroup may charge group v w a). inr move) (wide.change w a w_in (sym (new_is w w_in) ∙ is));
  covers = λ w w_in allowed. let c = wide.covers w w_in allowed in (c.0, new_is w w_in ∙ c.1, c.2);
  less = λ w known w_in was. let c = wide.less w known w_in (sym (old_is w w_in) ∙ was) in (c.0, new_is w w_in ∙ c.1, c.2);
}

-- rows and arcs of the root make the residual network
pub residual_of : (p : FlowProblem) (numbers sums : List ℕ) (cells : List (Option Arc)) → ((v : ℕ) → v < names_of p → HasRow p (λ g. cell_at numbers (names_of p) g v) v cells)
    → ((v : ℕ) → v < names_of p → HasRootArcs p (get_or sums v 0) v cells) → arc_at cells (names_of p + 1) (names_of p) (names_of p) ≡ None → AreResidual (flows_at p numbers sums) (arc_at cells (names_of p + 1))
residual_of p numbers sums cells rows root none = record {
  group = λ v w a v_in w_in is. (rows v v_in).group w a w_in is;
  there = λ v w a v_in w_in is. (rows v v_in).there w a w_in is;
  allowed = λ v w a v_in w_in is. (rows v v_in).allowed w a w_in is;
  cost = λ v w a v_in w_in is. (rows v v_in).cost w a w_in is;
  least = λ g v w g_in v_in w_in some allowed. (rows v v_in).least g w g_in w_in some allowed;
  room = λ v a v_in is. (root v v_in).room.only a is;
  has_room = λ v v_in less. (root v v_in).room.has less;
  spare = λ v a v_in is. (root v v_in).spare.only a is;
  has_spare = λ v v_in less. (root v v_in).spare.has less;
  none = none;
}

module _ (p : FlowProblem) (numbers sums : List ℕ) (cells : List (Option Arc)) (are : AreResidual (flows_at p numbers sums) (arc_at cells (names_of p + 1))) (v : ℕ) (v_in : v < names_of p) where
  pub row_of : HasRow p (λ g. cell_at numbers (names_of p) g v) v cells
  row_of = record {
    group = λ w a w_in is. are.group v w a v_in w_in is;
    there = λ w a w_in is. are.there v w a v_in w_in is;
    allowed = λ w a w_in is. are.allowed v w a v_in w_in is;
    cost = λ w a w_in is. are.cost v w a v_in w_in is;
    least = λ g w g_in w_in some allowed. are.least g v w g_in v_in w_in some allowed;
  }

  pub root_arcs_of : HasRootArcs p (get_or sums v 0) v cells
  root_arcs_of = record {
    room = record { only = λ a is. are.room v a v_in is; has = λ less. are.has_room v v_in less };
    spare = record { only = λ a is. are.spare v a v_in is; has = λ less. are.has_spare v v_in less };
  }

-- a name's arcs to and from the root are right as long as its total and they stay
pub root_arcs_stay : (p : FlowProblem) (total total' v : ℕ) (cells cells' : List (Option Arc)) → HasRootArcs p total v cells → total' ≡ total → arc_at cells' (names_of p + 1) v (names_of p) ≡ arc_at cells (names_of p + 1) v (names_of p)
    → arc_at cells' (names_of p + 1) (names_of p) v ≡ arc_at cells (names_of p + 1) (names_of p) v → HasRootArcs p total' v cells'
root_arcs_stay p total total' v cells cells' are same to_same from_same = record {
  room = subst (λ x. IsRootArc total' (get_or p.high.items v 0) x) (sym to_same) (subst (λ x. IsRootArc x (get_or p.high.items v 0) (arc_at cells (names_of p + 1) v (names_of p))) (sym same) are.room);
  spare = subst (λ x. IsRootArc (get_or p.low.items v 0) total' x) (sym from_same) (subst (λ x. IsRootArc (get_or p.low.items v 0) x (arc_at cells (names_of p + 1) (names_of p) v)) (sym same) are.spare);
}
