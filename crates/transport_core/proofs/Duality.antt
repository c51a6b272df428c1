-- Weak duality: no rule that fits costs less than what dual prices prove.
use Rattle.std.proofs.Common.{◌≡◌, ◌==◌, ℕ, suc, ◌*◌, ◌<◌, ◌≤◌, ℤ, pos, negsuc, neg_ℤ, ◌+ℤ◌, ◌*ℤ◌, ◌≤ℤ◌, List, [], length, Bool, true, unwrap_or, count_by, refl, sym, ap, ◌∙◌, zero-add, arith}
use Rattle.std.proofs.Math.IntN.{pos-*ℤ-pos, *ℤ-zero}
use Rattle.std.proofs.Math.Nat.{mul-le-mul_right}
use Rattle.std.proofs.lemmas.Bool.{eqb-true}
use Rattle.std.proofs.lemmas.Cmp.{nat_list_cmp_total}
use Rattle.std.proofs.lemmas.Int.{ints, clamps}
use Rattle.std.proofs.lemmas.List.Sums.{sum-map}
use Rattle.std.proofs.lemmas.Slice.Eq.{bytes_eq-Decides}
use Rattle.std.specs.Int.{int_max, int_min}
use Rattle.std.specs.Cmp.Lexicographic.{slice_cmp}
use Rattle.std.specs.List.{range_with_len, list_any}
use Rattle.std.specs.List.Sorted.{IsStrictlySortedBy}
use Rattle.std.specs.Map.{keys_of}
use Rattle.std.specs.Ordering.{nat_cmp}
use Rattle.std.specs.Str.{bytes_eq}
use Rattle.bucket_core.specs.Point.{point_of}
use Rattle.bucket_core.specs.Rule.{Entries, total_weight, points, at, total_of}
use Rattle.transport_core.specs.Dual.{inputs_at, least_value, IsDual}
use Rattle.transport_core.specs.Fits.{Fits}
use Rattle.price_core.specs.Cost.{cost_of, input_cost, name_of_input}
use Rattle.price_core.specs.Limits.{Limits, AreLimits, limits_of, low_of, high_of}
use Rattle.price_core.specs.Pricing.{Pricing, price_of}
use Rattle.transport_core.specs.Sum.{sum_z}
use Rattle.transport_core.proofs.Keys.{once_in_sorted, limits_of-at, listed, contains_from_any}
use Rattle.transport_core.proofs.Points.{length-points, at_below, point_of-below, total_of-some}
use Rattle.transport_core.proofs.Regroup.{PicksOne, regroup, picks_one, once_in_range}
use Rattle.transport_core.proofs.Sums.{sum_z-plus, sum_z-same, sum_z-pos, sum_z-range, sum_z-le, sum_z-le_range}

-- what a total within the limits makes of beta
pub least_value-le : (low high total : ℕ) (beta : ℤ) → low ≤ total → total ≤ high → least_value (low, high) beta ≤ℤ (pos total *ℤ beta)
least_value-le low high total (pos b) from to =
    let more : int_max (pos b) (pos 0) ≡ pos b = omega (arith, ints, clamps) in
    let less : int_min (pos b) (pos 0) ≡ pos 0 = omega (arith, ints, clamps) in
    let left : (pos low *ℤ int_max (pos b) (pos 0)) ≡ pos (low * b) = ap (λ z. pos low *ℤ z) more in
    let right : (pos high *ℤ int_min (pos b) (pos 0)) ≡ pos 0 = ap (λ z. pos high *ℤ z) less ∙ *ℤ-zero (pos high) in
    let grows : low * b ≤ total * b = mul-le-mul_right b from in
    omega (arith, ints, left, right, grows)
least_value-le low high total (negsuc b) from to =
    let left : (pos low *ℤ int_max (negsuc b) (pos 0)) ≡ pos 0 = *ℤ-zero (pos low) in
    let right : (pos high *ℤ int_min (negsuc b) (pos 0)) ≡ neg_ℤ (pos (high * suc b)) = refl in
    let grows : total * suc b ≤ high * suc b = mul-le-mul_right (suc b) to in
    omega (arith, ints, left, right, grows)

-- the name at a point, as `cost_of` reads it
abbrev name_at : Entries → ℕ → List ℕ
name_at r p = unwrap_or (at r p) []

-- what one input at a point costs
abbrev pub price_at : Entries → Entries → Pricing → ℕ → ℕ
price_at old new pricing p = price_of pricing (name_at old p) (name_at new p)

-- the inputs, point by point
pub cost-by_points : (old new : Entries) (inputs : List (List ℕ)) (pricing : Pricing) → 0 < total_weight old → total_weight new ≡ total_weight old
    → pos (cost_of old new inputs pricing) ≡ sum_z (λ p. pos (inputs_at (total_weight old) inputs p * price_at old new pricing p)) (range_with_len 0 (total_weight old))
cost-by_points old new inputs pricing some weight =
    let w = total_weight old in
    let f : ℕ → ℕ = price_at old new pricing in
    let of_key : List ℕ → ℕ = input_cost old new pricing in
    let value : (k : List ℕ) → of_key k ≡ f (point_of w k) = λ k. ap (λ n. price_of pricing (name_of_input old k) (name_at new (point_of n k))) weight in
    let picks : (k : List ℕ) → PicksOne (λ p. point_of w k == p) (range_with_len 0 w) (λ p. pos (f p)) (pos (of_key k)) =
    λ k. picks_one (λ p. point_of w k == p) (λ p. pos (f p)) (pos (of_key k)) (range_with_len 0 w) (once_in_range (point_of w k) 0 w (omega arith) (omega (arith, point_of-below w k some)))
    (λ p same. ap (λ n. pos n) (ap f (sym (eqb-true (point_of w k) p same)) ∙ sym (value k))) in
    ap pos (sum-map of_key inputs)
    ∙ (sym (sum_z-pos of_key inputs)
    ∙ (regroup (λ k p. point_of w k == p) (λ p. pos (f p)) (λ k. pos (of_key k)) (range_with_len 0 w) inputs (λ i k is. picks k)
    ∙ sum_z-same (λ p. pos (inputs_at w inputs p) *ℤ pos (f p)) (λ p. pos (inputs_at w inputs p * f p)) (range_with_len 0 w) (λ p. pos-*ℤ-pos (inputs_at w inputs p) (f p))))

-- a sum over the points of a rule that keeps the limits, name by name
pub sum_z-by_names : (limits : Limits) (r : Entries) (beta : List ℕ → ℤ) → IsStrictlySortedBy (slice_cmp nat_cmp) (keys_of limits) → ((name : List ℕ) → total_of r name ≤ high_of limits name)
    → sum_z beta (points r) ≡ sum_z (λ l. pos (total_of r l.0) *ℤ beta l.0) limits
sum_z-by_names limits r beta rise high =
    let Named : Type 0 = List ℕ × (ℕ × ℕ) in
    let here : List ℕ → Named → Bool = λ n l. bytes_eq n l.0 in
    regroup here (λ l. beta l.0) beta limits (points r)
    (λ i n is.
    let some : list_any (bytes_eq n) (keys_of limits) ≡ true = listed limits n (omega (arith, total_of-some r i n is, high n)) in
    let once : count_by (λ l. bytes_eq n l.0) limits ≡ 1 = once_in_sorted (slice_cmp nat_cmp) nat_list_cmp_total (λ (l : Named). l.0) (bytes_eq n) n (λ k h. sym ((bytes_eq-Decides n k).0 h)) limits rise some in
    picks_one (here n) (λ l. beta l.0) (beta n) limits once (λ l h. ap beta (sym ((bytes_eq-Decides n l.0).0 h))))

-- the limits bound what a rule that keeps them makes of beta
pub values-le : (limits : Limits) (r : Entries) (beta : List ℕ → ℤ) → IsStrictlySortedBy (slice_cmp nat_cmp) (keys_of limits) → ((name : List ℕ) → low_of limits name ≤ total_of r name) → ((name : List ℕ) → total_of r name ≤ high_of limits name)
    → sum_z (λ l. least_value l.1 (beta l.0)) limits ≤ℤ sum_z beta (points r)
values-le limits r beta rise low high =
    let each = sum_z-le (λ l. least_value l.1 (beta l.0)) (λ l. pos (total_of r l.0) *ℤ beta l.0) limits
    (λ k l is.
    let found : limits_of limits l.0 ≡ l.1 = ap (λ o. unwrap_or o (0, 0)) (limits_of-at limits k l rise is) in
    least_value-le l.1.0 l.1.1 (total_of r l.0) (beta l.0) (omega (arith, low l.0, ap (λ m. m.0) found)) (omega (arith, high l.0, ap (λ m. m.1) found))) in
    omega (arith, ints, each, sum_z-by_names limits r beta rise high)

-- at each point, alpha and beta sum to at most what it costs
point-le : (old other : Entries) (limits : Limits) (pricing : Pricing) (inputs : List (List ℕ)) (alpha : ℕ → ℤ) (beta : List ℕ → ℤ) (cost : ℕ) → Fits old other limits pricing → IsDual old limits pricing inputs alpha beta cost
    → (p : ℕ) → p < total_weight old → (alpha p +ℤ beta (name_at other p)) ≤ℤ pos (inputs_at (total_weight old) inputs p * price_at old other pricing p)
point-le old other limits pricing inputs alpha beta cost fits dual p below =
    let from = at_below old p below in
    let to = at_below other p (omega (arith, fits.weight)) in
    let some : list_any (bytes_eq to.0) (keys_of limits) ≡ true = listed limits to.0 (omega (arith, total_of-some other p to.0 to.1, fits.high to.0)) in
    let slack = dual.slack p from.0 to.0 from.1 (contains_from_any (keys_of limits) to.0 some) (fits.allowed p from.0 to.0 from.1 to.1) in
    let old_is : name_at old p ≡ from.0 = ap (λ o. unwrap_or o []) from.1 in
    let new_is : name_at other p ≡ to.0 = ap (λ o. unwrap_or o []) to.1 in
    let n = inputs_at (total_weight old) inputs p in
    let price : n * price_at old other pricing p ≡ n * price_of pricing from.0 to.0 = ap (λ a. n * price_of pricing a (name_at other p)) old_is ∙ ap (λ b. n * price_of pricing from.0 b) new_is in
    omega (arith, ints, slack, ap beta new_is, price)

-- no rule that fits costs less than what dual prices prove
pub weak_duality : (old other : Entries) (limits : Limits) (pricing : Pricing) (inputs : List (List ℕ)) (alpha : ℕ → ℤ) (beta : List ℕ → ℤ) (cost : ℕ) → 0 < total_weight old → AreLimits limits → Fits old other limits pricing → IsDual old limits pricing inputs alpha beta cost
    → cost ≤ cost_of old other inputs pricing
weak_duality old other limits pricing inputs alpha beta cost some lawful fits dual =
    let w = total_weight old in
    let b : ℕ → ℤ = λ p. beta (name_at other p) in
    let c : ℕ → ℤ = λ p. pos (inputs_at w inputs p * price_at old other pricing p) in
    let points_le = sum_z-le_range (λ p. alpha p +ℤ b p) c 0 w (λ p from to. point-le old other limits pricing inputs alpha beta cost fits dual p (omega arith)) in
    let parts = sum_z-plus alpha b (range_with_len 0 w) in
    let by_points : sum_z b (range_with_len 0 (length (points other))) ≡ sum_z beta (points other) = sum_z-range b beta 0 (points other) (λ k x is. ap (λ m. b m) (zero-add k) ∙ ap (λ o. beta (unwrap_or o [])) is) in
    let as_many : length (points other) ≡ w = length-points other ∙ fits.weight in
    let named : sum_z b (range_with_len 0 w) ≡ sum_z beta (points other) = ap (λ n. sum_z b (range_with_len 0 n)) (sym as_many) ∙ by_points in
    let least = values-le limits other beta lawful.rise fits.low fits.high in
    let whole = cost-by_points old other inputs pricing some fits.weight in
    let all : pos cost ≤ℤ pos (cost_of old other inputs pricing) = omega (arith, ints, points_le, parts, named, least, whole, dual.sum) in
    omega (arith, ints, all)
