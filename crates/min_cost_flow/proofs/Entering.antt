-- A group that enters the arcs from its name.
use Rattle.std.proofs.Common.{◌≡◌, ℕ, ◌<◌, ⊎_elim, inl, inr, ℤ, pos, ◌*ℤ◌, Bool, true, Option, Some, None, refl, sym, ap, ◌∙◌, arith}
use Rattle.std.proofs.lemmas.Int.{ints}
use Rattle.std.proofs.lemmas.Option.{same_Some}
use Rattle.min_cost_flow.specs.Offered.{IsSwitchCost, IsOffer, Offers}
use Rattle.min_cost_flow.specs.Problem.{is_allowed, cost_or_zero}
use Rattle.min_cost_flow.specs.Residual.{TakesMoves, IsMoveOfGroup}
use Rattle.min_cost_flow.proofs.Products.{pays_more}
use Rattle.min_cost_flow.specs.declared.arc.Arc.{Arc}

pub there_is : (switch_cost : Option ℤ) → is_allowed switch_cost ≡ true → (z : ℤ) × (switch_cost ≡ Some z)
there_is None h = cc
there_is (Some z) h = (z, refl)

module _ (names g v count : ℕ) (here : ℤ) (switch_cost : ℕ → Option ℤ) (may : ℕ → ℕ → Bool) (charge : ℕ → ℕ → ℤ) (old new : ℕ → Option Arc)
    (may_is : (w : ℕ) → may g w ≡ is_allowed (switch_cost w)) (charge_is : (w : ℕ) → charge g w ≡ pos count *ℤ cost_or_zero (switch_cost w))
    (here_is : switch_cost v ≡ Some here) (here_cost : IsSwitchCost here) (costs : (w : ℕ) (z : ℤ) → w < names → switch_cost w ≡ Some z → IsSwitchCost z)
    (offers : (w : ℕ) → w < names → Offers here g count (switch_cost w) (old w) (new w)) where
  charged : (w : ℕ) (to : ℤ) → switch_cost w ≡ Some to → charge g w ≡ pos count *ℤ to
  charged w to is = charge_is w ∙ ap (λ o. pos count *ℤ cost_or_zero o) is

  move_of : (w : ℕ) (a : Arc) → w < names → new w ≡ Some a → IsOffer here g count (switch_cost w) (old w) (new w) → IsMoveOfGroup may charge g v w a
  move_of w a w_in is o =
      let same : o.arc ≡ a = same_Some o.arc a (sym o.taken ∙ is) in
      record {
        same_group = ap (λ (x : Arc). x.group) (sym same) ∙ o.same_group;
        allowed = may_is w ∙ ap is_allowed o.allowed;
        cost = omega (arith, ints, pays_more count here o.to here_cost (costs w o.to w_in o.allowed), charged v here here_is, charged w o.to o.allowed, o.cost, ap (λ (x : Arc). x.cost) same);
      }

  pub widened : TakesMoves names may charge g v old new
  widened = record {
    change = λ w a w_in is.
        ⊎_elim
        (λ (same : new w ≡ old w). inl (sym same ∙ is))
        (λ (o : IsOffer here g count (switch_cost w) (old w) (new w)). inr (move_of w a w_in is o))
        (offers w w_in).change;
    covers = λ w w_in allowed.
        let p = there_is (switch_cost w) (sym (may_is w) ∙ allowed) in
        let c = (offers w w_in).covers p.0 p.1 in
        (c.0, c.1, omega (arith, ints, c.2, pays_more count here p.0 here_cost (costs w p.0 w_in p.1), charged v here here_is, charged w p.0 p.1));
    less = λ w known w_in is.
        ⊎_elim
        (λ (same : new w ≡ old w). (known, same ∙ is, omega (arith, ints)))
        (λ (o : IsOffer here g count (switch_cost w) (old w) (new w)). (o.arc, o.taken, o.less known is))
        (offers w w_in).change;
  }
