-- Prices that are pushed one after the other.
use Rattle.std.proofs.Common.{◌≡◌, ℕ, ◌+◌, ◌<◌, ⊎_elim, ℤ, pos, List, [], ◌∷◌, ◌++◌, length, length-append, get_or, Option, None, sym, ap, ◌∙◌, subst, arith}
use Rattle.std.proofs.lemmas.Bool.{cases_eq}
use Rattle.std.proofs.lemmas.List.{get_or_append_left}
use Rattle.std.proofs.Math.Seq.{get_or-append_seam}
use Rattle.transport_plan.specs.Offers.{HasSlack, IsTight, MayTake}
use Rattle.min_cost_flow.specs.Problem.{AreGroups, AreSwitchCosts, group_at}
use Rattle.min_cost_flow.specs.declared.problem.Group.{Group}
use Rattle.min_cost_flow.proofs.Cells.{part_at, part_length, part_of}
use Rattle.transport_plan.specs.DualPrices.{IsLeastAt}

-- what holds of each number so far holds with one more
pub pushed : (P : ℕ → ℤ → Type 0) (xs : List ℤ) (x : ℤ) (n : ℕ) → length xs ≡ n → ((i : ℕ) → i < n → P i (get_or xs i (pos 0))) → P n x → (length (xs ++ x ∷ []) ≡ n + 1) × ((i : ℕ) → i < n + 1 → P i (get_or (xs ++ x ∷ []) i (pos 0)))
pushed P xs x n size each here = (
  length-append xs (x ∷ []) ∙ ap (λ m. m + 1) size,
  (λ i i_in.
      ⊎_elim
      (λ (is : i ≡ n).
      let at : get_or (xs ++ x ∷ []) i (pos 0) ≡ x = ap (λ j. get_or (xs ++ x ∷ []) j (pos 0)) (is ∙ sym size) ∙ get_or-append_seam xs x [] (pos 0) in
      subst (λ z. P i z) (sym at) (subst (λ j. P j x) (sym is) here))
      (λ (not : i ≡ n → ⊥).
      let less : i < n = omega (arith, i_in, not) in
      subst (λ z. P i z) (sym (get_or_append_left xs (x ∷ []) (pos 0) i (omega (arith, less, size)))) (each i less))
      (cases_eq i n)),
)

-- the least offer over the row of a group's old variant
pub least_at : (groups : List Group) (costs : List (Option ℤ)) (names : List ℤ) (g : ℕ) (alpha : ℤ) → AreGroups (length names) costs groups → AreSwitchCosts (length names) costs → g < length groups
    → ((v : ℕ) (c : ℤ) → MayTake (part_of (length names) (group_at groups g).variant costs) v c → HasSlack names (group_at groups g).count alpha v c)
    → (v : ℕ) × ((c : ℤ) × (MayTake (part_of (length names) (group_at groups g).variant costs) v c × IsTight names (group_at groups g).count alpha v c))
    → IsLeastAt groups costs (length names) names g alpha
least_at groups costs names g alpha are priced g_in slack tight =
    let k = length names in
    let variant = (group_at groups g).variant in
    let v_in = are.variant g g_in in
    let long = part_length k k variant costs priced.size v_in in
    record {
      slack = λ w c w_in is. slack w c (record { place = omega (arith, w_in, long); switch_cost_at = part_at k k variant costs priced.size v_in w None w_in ∙ is });
      tight =
          let t = tight.1.1 in
          let w_in : tight.0 < k = omega (arith, t.0.place, long) in
          (tight.0, tight.1.0, w_in, sym (part_at k k variant costs priced.size v_in tight.0 None w_in) ∙ t.0.switch_cost_at, t.1);
    }
