-- A loop over the arcs of a name: which of them it has offered.
use Rattle.std.proofs.Common.{◌≡◌, ℕ, ◌+◌, ◌<◌, ◌≤◌, inl, inr, ⊎_elim, ℤ, pos, ◌-ℤ◌, ◌*ℤ◌, ◌≤ℤ◌, List, length, get_or, set, Option, Some, None, sym, ap, ◌∙◌, subst, arith}
use Rattle.std.proofs.lemmas.Bool.{cases_eq}
use Rattle.std.proofs.lemmas.Int.{ints}
use Rattle.std.proofs.lemmas.List.{get_or-set_same, get_or-set_other, length-set}
use Rattle.std.proofs.lemmas.Option.{same_Some}
use Rattle.min_cost_flow.specs.Offered.{Offers}
use Rattle.min_cost_flow.specs.declared.arc.Arc.{Arc}

-- the arcs below `v` are offered, and the others as they were
pub record OffersBelow (here : ℤ) (group count : ℕ) (costs : List (Option ℤ)) (row row' : List (Option Arc)) (v : ℕ) : Type 0 where
  pub size : length row' ≡ length costs
  pub done : (w : ℕ) → w < v → Offers here group count (get_or costs w None) (get_or row w None) (get_or row' w None)
  pub rest : (w : ℕ) → v ≤ w → get_or row' w None ≡ get_or row w None

module _ (here : ℤ) (group count : ℕ) (costs : List (Option ℤ)) (row row' row'' : List (Option Arc)) (v : ℕ) (within : v < length costs) (before : OffersBelow here group count costs row row' v) where
  pub keeps : row'' ≡ row' → ((to : ℤ) → get_or costs v None ≡ Some to → (a : Arc) × (get_or row' v None ≡ Some a) × (a.cost ≤ℤ (pos count *ℤ (to -ℤ here)))) → OffersBelow here group count costs row row'' (v + 1)
  keeps same covers =
      let at : (w : ℕ) → get_or row'' w None ≡ get_or row' w None = λ w. ap (λ xs. get_or xs w None) same in
      record {
        size = ap length same ∙ before.size;
        done = λ w below.
            ⊎_elim
            (λ (is : w ≡ v). record {
              change = inl (at w ∙ before.rest w (omega (arith, is)));
              covers = λ to allowed.
                  let c = covers to (ap (λ k. get_or costs k None) (sym is) ∙ allowed) in
                  (c.0, at w ∙ (ap (λ k. get_or row' k None) is ∙ c.1), c.2);
            })
            (λ (not : w ≡ v → ⊥). subst (λ o. Offers here group count (get_or costs w None) (get_or row w None) o) (sym (at w)) (before.done w (omega (arith, not))))
            (cases_eq w v);
        rest = λ w above. at w ∙ before.rest w (omega arith);
      }

  pub takes : (to : ℤ) (a : Arc) → row'' ≡ set row' v (Some a) → get_or costs v None ≡ Some to → a.group ≡ group → a.cost ≡ pos count *ℤ (to -ℤ here)
      → ((known : Arc) → get_or row' v None ≡ Some known → a.cost ≤ℤ known.cost) → OffersBelow here group count costs row row'' (v + 1)
  takes to a written allowed same_group cost less =
      let other : (w : ℕ) → (w ≡ v → ⊥) → get_or row'' w None ≡ get_or row' w None = λ w not. ap (λ xs. get_or xs w None) written ∙ get_or-set_other row' v w (Some a) None not in
      record {
        size = ap length written ∙ (length-set row' v (Some a) ∙ before.size);
        done = λ w below.
            ⊎_elim
            (λ (is : w ≡ v).
            let now : get_or row'' w None ≡ Some a = ap (λ xs. get_or xs w None) written ∙ (ap (λ k. get_or (set row' v (Some a)) k None) is ∙ get_or-set_same row' v (Some a) None (omega (arith, before.size, within))) in
            record {
              change = inr (record {
                to = to;
                arc = a;
                allowed = ap (λ k. get_or costs k None) is ∙ allowed;
                taken = now;
                same_group = same_group;
                cost = cost;
                less = λ known known_is. less known (ap (λ k. get_or row' k None) (sym is) ∙ (before.rest w (omega (arith, is)) ∙ known_is));
              });
              covers = λ other_to other_allowed.
                  let one : to ≡ other_to = same_Some to other_to (sym allowed ∙ (ap (λ k. get_or costs k None) (sym is) ∙ other_allowed)) in
                  (a, now, omega (arith, ints, cost, ap (λ z. pos count *ℤ (z -ℤ here)) one));
            })
            (λ (not : w ≡ v → ⊥). subst (λ o. Offers here group count (get_or costs w None) (get_or row w None) o) (sym (other w not)) (before.done w (omega (arith, not))))
            (cases_eq w v);
        rest = λ w above. other w (λ is. absurd (omega (arith, is))) ∙ before.rest w (omega arith);
      }
