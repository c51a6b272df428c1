-- The arcs that the first and the last group of each old variant leave are the cheapest.
use Rattle.std.proofs.Common.{◌≡◌, ℕ, ◌<◌, ℤ, pos, ◌+ℤ◌, ◌*ℤ◌, ◌≤ℤ◌, Bool, true, Option, Some, None, refl, sym, ap, ◌∙◌, arith}
use Rattle.std.proofs.lemmas.Int.{ints}
use Rattle.std.proofs.lemmas.Option.{same_Some}
use Rattle.min_cost_flow.specs.Offered.{IsSwitchCost}
use Rattle.min_cost_flow.specs.Problem.{is_allowed, cost_or_zero}
use Rattle.min_cost_flow.specs.Residual.{AreMoves, HaveFirst, HaveLast, IsLower, IsRow}
use Rattle.min_cost_flow.proofs.Entering.{there_is}
use Rattle.min_cost_flow.proofs.Products.{between}
use Rattle.min_cost_flow.specs.declared.arc.Arc.{Arc}
use Rattle.min_cost_flow.proofs.OptimalLaws.{none_there}

-- no arc is a move
pub no_moves : (groups names : ℕ) (may : ℕ → ℕ → Bool) (charge : ℕ → ℕ → ℤ) (here : ℕ → ℕ) (v : ℕ) (arc : ℕ → Option Arc) → ((w : ℕ) → arc w ≡ None) → AreMoves groups names may charge here v arc
no_moves groups names may charge here v arc none = record {
  group = λ w a w_in is. absurd (none_there a (sym (none w) ∙ is));
  there = λ w a w_in is. absurd (none_there a (sym (none w) ∙ is));
  move = λ w a w_in is. absurd (none_there a (sym (none w) ∙ is));
}

module _ (groups names : ℕ) (variant count : ℕ → ℕ) (switch_cost : ℕ → ℕ → Option ℤ) (may : ℕ → ℕ → Bool) (charge : ℕ → ℕ → ℤ) (here : ℕ → ℕ) (v : ℕ) (v_in : v < names) (old arc : ℕ → Option Arc)
    (may_is : (g w : ℕ) → may g w ≡ is_allowed (switch_cost (variant g) w)) (charge_is : (g w : ℕ) → charge g w ≡ pos (count g) *ℤ cost_or_zero (switch_cost (variant g) w))
    (costs : (g w : ℕ) (z : ℤ) → g < groups → w < names → switch_cost (variant g) w ≡ Some z → IsSwitchCost z)
    (free : (g : ℕ) → g < groups → 0 < here g → may g v ≡ true)
    (moves : AreMoves groups names may charge here v arc) (firsts : HaveFirst groups names variant count may charge here v old) (lower : IsLower names old arc) (lasts : HaveLast groups names variant count may charge here v arc) where
  charged : (g x w : ℕ) (z : ℤ) → variant x ≡ variant g → switch_cost (variant g) w ≡ Some z → charge x w ≡ pos (count x) *ℤ z
  charged g x w z same is = charge_is x w ∙ ap (λ o. pos (count x) *ℤ cost_or_zero o) (ap (λ k. switch_cost k w) same ∙ is)

  allowed_too : (g x w : ℕ) → variant x ≡ variant g → may g w ≡ true → may x w ≡ true
  allowed_too g x w same allowed = may_is x w ∙ (ap (λ k. is_allowed (switch_cost k w)) same ∙ (sym (may_is g w) ∙ allowed))

  least : (g w : ℕ) → g < groups → w < names → 0 < here g → may g w ≡ true → (a : Arc) × (arc w ≡ Some a) × ((charge g v +ℤ a.cost) ≤ℤ charge g w)
  least g w g_in w_in some allowed =
      let f = firsts g g_in some in
      let l = lasts g g_in some in
      let h = there_is (switch_cost (variant g) v) (sym (may_is g v) ∙ free g g_in some) in
      let t = there_is (switch_cost (variant g) w) (sym (may_is g w) ∙ allowed) in
      let first = f.4 w w_in (allowed_too g f.0 w f.2 allowed) in
      let now = lower w first.0 w_in first.1 in
      let last = l.4 w w_in (allowed_too g l.0 w l.2 allowed) in
      let one : last.0 ≡ now.0 = same_Some last.0 now.0 (sym last.1 ∙ now.1) in
      let same : (last.0).cost ≡ (now.0).cost = ap (λ (x : Arc). x.cost) one in
      let low : (pos (count f.0) *ℤ h.0 +ℤ (now.0).cost) ≤ℤ (pos (count f.0) *ℤ t.0) = omega (arith, ints, first.2, now.2, charged g f.0 v h.0 f.2 h.1, charged g f.0 w t.0 f.2 t.1) in
      let high : (pos (count l.0) *ℤ h.0 +ℤ (now.0).cost) ≤ℤ (pos (count l.0) *ℤ t.0) = omega (arith, ints, last.2, same, charged g l.0 v h.0 l.2 h.1, charged g l.0 w t.0 l.2 t.1) in (
        now.0,
        now.1,
        omega (arith, ints, between (count f.0) (count g) (count l.0) h.0 t.0 (now.0).cost (costs g v h.0 g_in v_in h.1) (costs g w t.0 g_in w_in t.1) f.3 l.3 low high, charged g g v h.0 refl h.1, charged g g w t.0 refl t.1),
      )

  pub cheapest : IsRow groups names may charge here v arc
  cheapest = record {
    group = moves.group;
    there = moves.there;
    allowed = λ w a w_in is. (moves.move w a w_in is).allowed;
    cost = λ w a w_in is. (moves.move w a w_in is).cost;
    least = least;
  }
