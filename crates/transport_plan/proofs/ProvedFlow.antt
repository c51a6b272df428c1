-- An optimal flow with the prices of its groups and names is proved to cost the least.
use Rattle.std.proofs.Common.{◌≡◌, ◌==◌, ◌&&◌, ◌||◌, ⊎_elim, ℕ, suc, ◌*◌, ◌<◌, ◌≤◌, ℤ, pos, ◌+ℤ◌, ◌≤ℤ◌, List, [], ◌∷◌, map, length, take, drop, get_or, Bool, true, false, not, refl, sym, ap, ◌∙◌, subst, arith}
use Rattle.std.proofs.lemmas.Bool.{and_from, or_left, or_right, cases_Bool, cases_lt, eq-eqb, not_from_false}
use Rattle.std.proofs.lemmas.Int.{ints}
use Rattle.std.proofs.lemmas.List.{length-take-le, length-map}
use Rattle.std.proofs.lemmas.Map.Entries.{length-keys_of}
use Rattle.std.proofs.lemmas.Map.Made.{keys_of-zip}
use Rattle.std.specs.List.{list_all, zip}
use Rattle.std.specs.Map.{keys_of}
use Rattle.std.specs.Prelude.{int_lt}
use Rattle.price_core.specs.Limits.{AreLimits}
use Rattle.price_core.specs.Pricing.{Pricing, price_of, is_forbidden}
use Rattle.transport_core.specs.Assignment.{row_flows, arc_flows, flows_of, spends_all, is_free_of, has_slack, flow_cost, IsPlaced, IsProved, inflow}
use Rattle.transport_core.specs.Certificate.{weighted, group_sum, gains, losses}
use Rattle.transport_core.specs.Groups.{GroupKey}
use Rattle.transport_core.specs.Instance.{TransportProblem}
use Rattle.transport_core.specs.Refusals.{is_broken}
use Rattle.transport_core.proofs.Arcs.{spends, free_step}
use Rattle.transport_plan.specs.Slackness.{IsTightRow, AreTightRows, columns, AreBalanced, charge, IsLeastOffer, IsOptimalRow, AreOptimalRows, AreLeastOffers, IsOptimal, certificate_of}
use Rattle.transport_plan.proofs.Slackness.{rows-pay, names-balance, length-columns}
use Rattle.transport_plan.proofs.Totals.{inflow-column, highs-kept, lows-kept}

-- ---- no prohibition is passed

row-free : (pricing : Pricing) (g : GroupKey) (names : List (List ℕ)) (row : List ℕ) → length row ≡ length names
    → ((v : ℕ) → v < length names → 0 < get_or row v 0 → is_forbidden pricing g.0 (get_or names v []) ≡ false) → is_free_of pricing (row_flows g names row) ≡ true
row-free pricing g [] row wide free = refl
row-free pricing g (n ∷ names) [] wide free = refl
row-free pricing g (n ∷ names) (k ∷ row) wide free =
    let rest = row-free pricing g names row (omega (arith, wide)) (λ v below. free (suc v) (omega (arith, below))) in
    let here : ((k == 0) || not (is_forbidden pricing g.0 n)) ≡ true = ⊎_elim
    (λ (some : 0 < k). or_right (k == 0) (not (is_forbidden pricing g.0 n)) (not_from_false (is_forbidden pricing g.0 n) (free 0 (omega arith) some)))
    (λ (none : k ≤ 0). or_left (k == 0) (not (is_forbidden pricing g.0 n)) (eq-eqb k 0 (omega (arith, none))))
    (cases_lt 0 k) in
    and_from ((k == 0) || not (is_forbidden pricing g.0 n)) (is_free_of pricing (row_flows g names row)) here rest

rows-free : (pricing : Pricing) (groups : List (GroupKey × ℕ)) (names : List (List ℕ)) (numbers : List ℕ) (beta : List ℤ) → spends_all groups (length names) numbers ≡ true
    → AreOptimalRows pricing groups names (length names) numbers beta → is_free_of pricing (arc_flows (keys_of groups) names numbers) ≡ true
rows-free pricing [] names numbers beta spent rows = refl
rows-free pricing (g ∷ gs) names numbers beta spent rows =
    let width = length names in
    let parts = spends g gs width numbers spent in
    let here = row-free pricing g.0 names (take width numbers) (length-take-le width numbers parts.long) rows.0.free in
    let rest = rows-free pricing gs names (drop width numbers) beta parts.rest rows.1 in
    free_step pricing g gs names width numbers (take width numbers) (drop width numbers) refl refl refl
    ∙ and_from (is_free_of pricing (row_flows g.0 names (take width numbers))) (is_free_of pricing (arc_flows (keys_of gs) names (drop width numbers))) here rest

-- ---- where points are, the prices are tight

tight-list : (pricing : Pricing) (g : GroupKey) (a : ℤ) (names : List (List ℕ)) (row : List ℕ) (beta : List ℤ)
    → ((v : ℕ) → v < length names → 0 < get_or row v 0 → (a +ℤ get_or beta v (pos 0)) ≡ charge pricing g names v) → IsTightRow pricing g a names row beta
tight-list pricing g a [] row beta each = tt
tight-list pricing g a (n ∷ names) [] beta each = tt
tight-list pricing g a (n ∷ names) (k ∷ row) [] each = tt
tight-list pricing g a (n ∷ names) (k ∷ row) (b ∷ beta) each = (λ some. each 0 (omega arith) some, tight-list pricing g a names row beta (λ v below. each (suc v) (omega (arith, below))))

row-tight : (pricing : Pricing) (g : GroupKey) (a : ℤ) (names : List (List ℕ)) (row : List ℕ) (beta : List ℤ) → IsOptimalRow pricing g names row beta → IsLeastOffer pricing g names beta a → IsTightRow pricing g a names row beta
row-tight pricing g a names row beta optimal least =
    tight-list pricing g a names row beta (λ v below some.
    let w = least.tight in
    let above = least.slack v below (optimal.free v below some) in
    let cheap = optimal.cheapest v w.0 below w.1 some w.2 in
    omega (arith, ints, above, cheap, w.3))

rows-tight : (pricing : Pricing) (groups : List (GroupKey × ℕ)) (alpha : List ℤ) (names : List (List ℕ)) (width : ℕ) (numbers : List ℕ) (beta : List ℤ)
    → AreOptimalRows pricing groups names width numbers beta → AreLeastOffers pricing groups names beta alpha → AreTightRows pricing groups alpha names width numbers beta
rows-tight pricing [] alpha names width numbers beta optimal least = tt
rows-tight pricing (g ∷ gs) [] names width numbers beta optimal least = tt
rows-tight pricing (g ∷ gs) (a ∷ alpha) names width numbers beta optimal least =
    (row-tight pricing g.0 a names (take width numbers) beta optimal.0 least.0, rows-tight pricing gs alpha names width (drop width numbers) beta optimal.1 least.1)

-- ---- slack

unbroken : (pricing : Pricing) (g : GroupKey) (a : ℤ) (n : List ℕ) (b : ℤ) → (is_forbidden pricing g.0 n ≡ false → (a +ℤ b) ≤ℤ pos (g.1 * price_of pricing g.0 n)) → not (is_broken pricing ((g, a), (n, b))) ≡ true
unbroken pricing g a n b slack =
    let c = pos (g.1 * price_of pricing g.0 n) in
    ⊎_elim
    (λ (barred : is_forbidden pricing g.0 n ≡ true). ap (λ f. not (not f && int_lt c (a +ℤ b))) barred)
    (λ (allowed : is_forbidden pricing g.0 n ≡ false).
    let small : int_lt c (a +ℤ b) ≡ false = grind (arith, ints, slack allowed) in
    ap (λ f. not (not f && int_lt c (a +ℤ b))) allowed ∙ ap (λ (f : Bool). not f) small)
    (cases_Bool (is_forbidden pricing g.0 n))

column-slack : (pricing : Pricing) (groups : List (GroupKey × ℕ)) (alpha : List ℤ) (names : List (List ℕ)) (beta : List ℤ) (v : ℕ) → length alpha ≡ length groups → v < length names → AreLeastOffers pricing groups names beta alpha
    → list_all (λ (x : GroupKey × ℤ). not (is_broken pricing (x, (get_or names v [], get_or beta v (pos 0))))) (zip (keys_of groups) alpha) ≡ true
column-slack pricing [] alpha names beta v each below least = refl
column-slack pricing (g ∷ gs) [] names beta v each below least = refl
column-slack pricing (g ∷ gs) (a ∷ alpha) names beta v each below least =
    and_from (not (is_broken pricing ((g.0, a), (get_or names v [], get_or beta v (pos 0))))) (list_all (λ (x : GroupKey × ℤ). not (is_broken pricing (x, (get_or names v [], get_or beta v (pos 0))))) (zip (keys_of gs) alpha))
    (unbroken pricing g.0 a (get_or names v []) (get_or beta v (pos 0)) (least.0.slack v below))
    (column-slack pricing gs alpha names beta v (omega (arith, each)) below least.1)

names-slack : (pricing : Pricing) (alpha : List (GroupKey × ℤ)) (names : List (List ℕ)) (beta : List ℤ) → length beta ≡ length names
    → ((v : ℕ) → v < length names → list_all (λ (x : GroupKey × ℤ). not (is_broken pricing (x, (get_or names v [], get_or beta v (pos 0))))) alpha ≡ true) → has_slack pricing alpha (zip names beta) ≡ true
names-slack pricing alpha [] beta same each = refl
names-slack pricing alpha (n ∷ names) [] same each = refl
names-slack pricing alpha (n ∷ names) (b ∷ beta) same each =
    and_from (list_all (λ (x : GroupKey × ℤ). not (is_broken pricing (x, (n, b)))) alpha) (has_slack pricing alpha (zip names beta)) (each 0 (omega arith)) (names-slack pricing alpha names beta (omega (arith, same)) (λ v below. each (suc v) (omega (arith, below))))

-- ---- the certificate

values : {K X : Type 0} (ks : List K) (xs : List X) → length xs ≡ length ks → map (λ (e : K × X). e.1) (zip ks xs) ≡ xs
values [] [] same = refl
values [] (x ∷ xs) same = absurd (omega (arith, same))
values (k ∷ ks) [] same = absurd (omega (arith, same))
values (k ∷ ks) (x ∷ xs) same = ap (λ ys. x ∷ ys) (values ks xs (omega (arith, same)))

module _ (p : TransportProblem) (numbers : List ℕ) (alpha beta : List ℤ) (cost : ℕ) (lawful : AreLimits p.limits) (optimal : IsOptimal p numbers beta)
    (each : length alpha ≡ length p.groups) (least : AreLeastOffers p.pricing p.groups (keys_of p.limits) beta alpha) (is : flow_cost p.pricing (flows_of p numbers) ≡ cost) where
  abbrev names : List (List ℕ)
  names = keys_of p.limits

  wide : length names ≡ length p.limits
  wide = length-keys_of p.limits

  spent : spends_all p.groups (length names) numbers ≡ true
  spent = ap (λ w. spends_all p.groups w numbers) wide ∙ optimal.spent

  rows : AreOptimalRows p.pricing p.groups names (length names) numbers beta
  rows = subst (λ w. AreOptimalRows p.pricing p.groups names w numbers beta) (sym wide) optimal.rows

  abbrev totals : List ℕ
  totals = columns p.groups (length p.limits) numbers

  totals-wide : length totals ≡ length p.limits
  totals-wide = length-columns p.groups (length p.limits) numbers optimal.spent

  totals-are : (v : ℕ) → v < length p.limits → inflow (flows_of p numbers) (get_or names v []) ≡ get_or totals v 0
  totals-are v below = inflow-column p.groups names numbers v lawful.rise (omega (arith, wide, below)) spent ∙ ap (λ w. get_or (columns p.groups w numbers) v 0) wide

  placed : IsPlaced p numbers
  placed = record {
    whole = optimal.spent;
    allowed = rows-free p.pricing p.groups names numbers beta spent rows;
    high = highs-kept p.limits totals beta (inflow (flows_of p numbers)) totals-wide optimal.priced optimal.balance totals-are;
  }

  sum_is : ((group_sum p.groups (zip (keys_of p.groups) alpha) +ℤ gains p.limits (zip names beta)) +ℤ losses p.limits (zip names beta)) ≡ pos cost
  sum_is =
      let betas : map (λ (b : List ℕ × ℤ). b.1) (zip names beta) ≡ beta = values names beta (omega (arith, wide, optimal.priced)) in
      let alphas : map (λ (a : GroupKey × ℤ). a.1) (zip (keys_of p.groups) alpha) ≡ alpha = values (keys_of p.groups) alpha (omega (arith, each, length-keys_of p.groups)) in
      let paid = rows-pay p.pricing p.groups alpha names numbers beta each (omega (arith, wide, optimal.priced)) spent (rows-tight p.pricing p.groups alpha names (length names) numbers beta rows least) in
      let size : length (zip names beta) ≡ length p.limits = sym (length-map (zip names beta) (λ (b : List ℕ × ℤ). b.1)) ∙ (ap (λ (xs : List ℤ). length xs) betas ∙ optimal.priced) in
      let balanced = names-balance p.limits totals (zip names beta) totals-wide size (subst (λ (bs : List ℤ). AreBalanced p.limits totals bs) (sym betas) optimal.balance) in
      let left : group_sum p.groups (zip (keys_of p.groups) alpha) ≡ weighted (map (λ (g : GroupKey × ℕ). g.1) p.groups) alpha = ap (weighted (map (λ (g : GroupKey × ℕ). g.1) p.groups)) alphas in
      let right : weighted totals (map (λ (b : List ℕ × ℤ). b.1) (zip names beta)) ≡ weighted totals beta = ap (weighted totals) betas in
      let column : weighted (columns p.groups (length names) numbers) beta ≡ weighted totals beta = ap (λ w. weighted (columns p.groups w numbers) beta) wide in
      let here : pos (flow_cost p.pricing (flows_of p numbers)) ≡ pos cost = ap (λ n. pos n) is in
      omega (arith, ints, paid, balanced, left, right, column, here)

  -- the dual prices of an optimal flow prove what it costs
  pub proved : IsProved p numbers (certificate_of p alpha beta cost)
  proved = record {
    placed = placed;
    low = lows-kept p.limits totals beta (inflow (flows_of p numbers)) totals-wide optimal.priced optimal.balance totals-are;
    cost = is;
    duals = record {
      groups = keys_of-zip (keys_of p.groups) alpha (omega (arith, each, length-keys_of p.groups));
      names = keys_of-zip names beta (omega (arith, wide, optimal.priced));
      slack = names-slack p.pricing (zip (keys_of p.groups) alpha) names beta (omega (arith, wide, optimal.priced)) (λ v below. column-slack p.pricing p.groups alpha names beta v each below least);
      sum = sum_is;
    };
  }
