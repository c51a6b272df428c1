-- The dual prices of groups, by number, are their least offers.
use Rattle.std.proofs.Common.{◌≡◌, ℕ, suc, ◌*◌, ◌<◌, ℤ, pos, ◌*ℤ◌, List, [], ◌∷◌, length, get_or, Some, None, true, false, refl, sym, ap, ◌∙◌, arith}
use Rattle.std.proofs.lemmas.Bool.{false≢true}
use Rattle.std.proofs.lemmas.Int.{ints}
use Rattle.std.proofs.lemmas.Map.Entries.{length-keys_of}
use Rattle.std.proofs.lemmas.Option.{same_Some}
use Rattle.std.specs.Map.{keys_of}
use Rattle.std.specs.Prelude.{if◌then◌else◌, Bool}
use Rattle.price_core.specs.Pricing.{Pricing, is_forbidden, price_of}
use Rattle.transport_plan.specs.Slackness.{AreLeastOffers, IsLeastOffer, charge}
use Rattle.min_cost_flow.specs.Problem.{group_at, names_of, switch_cost_at}
use Rattle.min_cost_flow.specs.declared.problem.FlowProblem.{FlowProblem}
use Rattle.transport_core.specs.Groups.{GroupKey}
use Rattle.transport_core.specs.Instance.{TransportProblem}
use Rattle.transport_plan.specs.Numbered.{IsNumbered, name_at, row_at}
use Rattle.transport_plan.specs.DualPrices.{IsLeastAt}
use Rattle.transport_plan.proofs.Numbering.{switch_at}

offers_all : (pricing : Pricing) (gs : List (GroupKey × ℕ)) (d : GroupKey × ℕ) (names : List (List ℕ)) (beta alpha : List ℤ) → length alpha ≡ length gs
    → ((g : ℕ) → g < length gs → IsLeastOffer pricing (get_or gs g d).0 names beta (get_or alpha g (pos 0))) → AreLeastOffers pricing gs names beta alpha
offers_all pricing [] d names beta alpha same each = tt
offers_all pricing (g ∷ gs) d names beta [] same each = tt
offers_all pricing (g ∷ gs) d names beta (a ∷ alpha) same each = (each 0 (omega arith), offers_all pricing gs d names beta alpha (omega (arith, same)) (λ h h_in. each (suc h) (omega (arith, h_in))))

open_switch : (forbidden : Bool) (c : ℕ) → forbidden ≡ false → (if forbidden then None else Some (pos c)) ≡ Some (pos c)
open_switch true c is = absurd (false≢true (sym is))
open_switch false c is = refl

none_there : (z : ℤ) → None ≡ Some z → ⊥
none_there z clash = cc

switch_open : (forbidden : Bool) (c : ℕ) (z : ℤ) → (if forbidden then None else Some (pos c)) ≡ Some z → (forbidden ≡ false) × (z ≡ pos c)
switch_open true c z is = absurd (none_there z is)
switch_open false c z is = (refl, same_Some z (pos c) (sym is))

module _ (p : TransportProblem) (q : FlowProblem) (alpha beta : List ℤ) (are : IsNumbered p q) where
  wide : length (keys_of p.limits) ≡ length p.limits
  wide = length-keys_of p.limits

  charged : (g w : ℕ) → g < length p.groups → (pos (group_at q.groups.items g).count *ℤ pos (price_of p.pricing (row_at p g).0.0 (name_at p w))) ≡ charge p.pricing (row_at p g).0 (keys_of p.limits) w
  charged g w g_in = ap (λ c. pos (c * price_of p.pricing (row_at p g).0.0 (name_at p w))) (are.count g g_in)

  offer_at : (g : ℕ) (a : ℤ) → g < length p.groups → IsLeastAt q.groups.items q.costs.items (names_of q) beta g a → IsLeastOffer p.pricing (row_at p g).0 (keys_of p.limits) beta a
  offer_at g a g_in least =
      let from = (row_at p g).0.0 in
      record {
        slack = λ w w_in allowed.
            let w_name : w < length p.limits = omega (arith, w_in, wide) in
            let price = price_of p.pricing from (name_at p w) in
            let is : switch_cost_at q.costs.items (names_of q) (group_at q.groups.items g).variant w ≡ Some (pos price) = switch_at p q are g w g_in w_name ∙ open_switch (is_forbidden p.pricing from (name_at p w)) price allowed in
            omega (arith, ints, least.slack w (pos price) (omega (arith, w_name, are.names)) is, charged g w g_in);
        tight =
            let t = least.tight in
            let w = t.0 in
            let w_name : w < length p.limits = omega (arith, t.2, are.names) in
            let price = price_of p.pricing from (name_at p w) in
            let shown = switch_open (is_forbidden p.pricing from (name_at p w)) price t.1 (sym (switch_at p q are g w g_in w_name) ∙ t.3) in
            (w, omega (arith, w_name, wide), shown.0, t.4 ∙ (ap (λ z. pos (group_at q.groups.items g).count *ℤ z) shown.1 ∙ charged g w g_in));
      }

  pub least_offers : length alpha ≡ length p.groups → ((g : ℕ) → g < length p.groups → IsLeastAt q.groups.items q.costs.items (names_of q) beta g (get_or alpha g (pos 0))) → AreLeastOffers p.pricing p.groups (keys_of p.limits) beta alpha
  least_offers same each = offers_all p.pricing p.groups (([], 0), 0) (keys_of p.limits) beta alpha same (λ g g_in. offer_at g (get_or alpha g (pos 0)) g_in (each g g_in))
