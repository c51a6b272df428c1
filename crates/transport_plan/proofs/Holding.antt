-- Marks of old names, group by group.
use Rattle.std.proofs.Common.{◌≡◌, ℕ, ◌+◌, ◌*◌, ◌<◌, ⊎_elim, ℤ, List, length, get_or, set, Bool, true, false, Option, sym, ap, ◌∙◌, subst, arith}
use Rattle.std.proofs.lemmas.Bool.{cases_eq}
use Rattle.std.proofs.lemmas.List.{get_or-set_same, get_or-set_other, length-set}
use Rattle.min_cost_flow.specs.Problem.{group_at, is_allowed, switch_cost_at}
use Rattle.min_cost_flow.specs.declared.problem.Group.{Group}

pub record Holding (k : ℕ) (groups : List Group) (costs : List (Option ℤ)) (placed : List ℕ) (rank : ℕ → ℕ) (marks : List Bool) (i : ℕ) : Type 0 where
  pub size : length marks ≡ k
  pub held : (g v : ℕ) → g < i → v < k → 0 < get_or placed (g * k + v) 0 → rank v < k + 1 → get_or marks (group_at groups g).variant false ≡ true
  pub closed : (u w : ℕ) → u < k → w < k → get_or marks u false ≡ true → is_allowed (switch_cost_at costs k u w) ≡ true → rank w < k + 1

module _ (k : ℕ) (groups : List Group) (costs : List (Option ℤ)) (placed : List ℕ) (rank : ℕ → ℕ) (marks marks' : List Bool) (i : ℕ) (before : Holding k groups costs placed rank marks i) where
  pub holds_no : marks' ≡ marks → ((v : ℕ) → v < k → 0 < get_or placed (i * k + v) 0 → rank v < k + 1 → ⊥) → Holding k groups costs placed rank marks' (i + 1)
  holds_no same none = subst (λ ms. Holding k groups costs placed rank ms (i + 1)) (sym same) (record {
    size = before.size;
    held = λ g v below v_in some settled.
        ⊎_elim
        (λ (is : g ≡ i). absurd (none v v_in (omega (arith, some, ap (λ h. get_or placed (h * k + v) 0) is)) settled))
        (λ (not : g ≡ i → ⊥). before.held g v (omega (arith, below, not)) v_in some settled)
        (cases_eq g i);
    closed = before.closed;
  })

  pub holds_yes : (v : ℕ) → marks' ≡ set marks (group_at groups i).variant true → (group_at groups i).variant < k → v < k → 0 < get_or placed (i * k + v) 0 → rank v < k + 1
      → ((w : ℕ) → w < k → is_allowed (switch_cost_at costs k (group_at groups i).variant w) ≡ true → rank w < k + 1) → Holding k groups costs placed rank marks' (i + 1)
  holds_yes v is variant v_in some settled closed =
      let x = (group_at groups i).variant in
      let here : get_or (set marks x true) x false ≡ true = get_or-set_same marks x true false (omega (arith, variant, before.size)) in
      subst (λ ms. Holding k groups costs placed rank ms (i + 1)) (sym is) (record {
        size = length-set marks x true ∙ before.size;
        held = λ g w below w_in there inside.
            ⊎_elim
            (λ (same : (group_at groups g).variant ≡ x). ap (λ u. get_or (set marks x true) u false) same ∙ here)
            (λ (other : (group_at groups g).variant ≡ x → ⊥).
            get_or-set_other marks x (group_at groups g).variant true false other
            ∙ before.held g w (⊎_elim (λ (last : g ≡ i). absurd (other (ap (λ h. (group_at groups h).variant) last))) (λ (not : g ≡ i → ⊥). omega (arith, below, not)) (cases_eq g i)) w_in there inside)
            (cases_eq (group_at groups g).variant x);
        closed = λ u w u_in w_in marked allowed.
            ⊎_elim
            (λ (same : u ≡ x). closed w w_in (ap (λ n. is_allowed (switch_cost_at costs k n w)) (sym same) ∙ allowed))
            (λ (other : u ≡ x → ⊥). before.closed u w u_in w_in (sym (get_or-set_other marks x u true false other) ∙ marked) allowed)
            (cases_eq u x);
      })
