-- The cost of a tally, from run to run.
use Rattle.std.proofs.Common.{◌≡◌, ℕ, zero, suc, ◌+◌, ◌-◌, ◌*◌, ◌<◌, ◌≤◌, List, [], ◌∷◌, ◌++◌, length, get_or, take, drop, sum, sum_by, Some, unwrap_or, sym, ap, ◌∙◌, add-one, drop-cons, arith}
use Rattle.std.specs.List.{range_with_len, slice_index, slice_range}
use Rattle.std.proofs.lemmas.List.Folds.{drop_split}
use Rattle.std.proofs.lemmas.List.Sums.{sum_by-cons, sum_by-append}
use Rattle.std.proofs.Math.Nat.{mul-le-mul_right}
use Rattle.rayon.proofs.ListFacts.{sum-append}
use Rattle.bucket_core.specs.Rule.{Entries, at}
use Rattle.price_core.specs.Pricing.{Pricing, price_of}
use Rattle.price_core.specs.Cost.{name_at, point_cost}

range-append : (a n m : ℕ) → range_with_len a (n + m) ≡ range_with_len a n ++ range_with_len (a + n) m
range-append a zero m =
    let none : 0 + m ≡ m = omega arith in
    let same : a ≡ a + 0 = omega arith in
    ap (range_with_len a) none ∙ ap (λ b. range_with_len b m) same
range-append a (suc n) m =
    let next : suc n + m ≡ suc (n + m) = omega arith in
    let moved : (a + 1) + n ≡ a + suc n = omega arith in
    ap (range_with_len a) next ∙ ap (λ xs. a ∷ xs) (range-append (a + 1) n m ∙ ap (λ b. range_with_len (a + 1) n ++ range_with_len b m) moved)

-- a sum over the points before one, and from it on
pub sum-split : (f : ℕ → ℕ) (b c : ℕ) → b ≤ c → sum_by f (range_with_len 0 c) ≡ sum_by f (range_with_len 0 b) + sum_by f (range_with_len b (c - b))
sum-split f b c high =
    let whole : c ≡ b + (c - b) = omega arith in
    let from : 0 + b ≡ b = omega arith in
    ap (λ n. sum_by f (range_with_len 0 n)) whole
    ∙ (ap (sum_by f) (range-append 0 b (c - b) ∙ ap (λ k. range_with_len 0 b ++ range_with_len k (c - b)) from)
    ∙ sum_by-append f (range_with_len 0 b) (range_with_len b (c - b)))

first_sum : (n x : ℕ) (xs : List ℕ) → sum (take (suc n) (x ∷ xs)) ≡ x + sum (take n xs)
first_sum n x xs =
    let one : sum (x ∷ []) ≡ x = zero_plus x in
    sum-append (x ∷ []) (take n xs) ∙ ap (λ k. k + sum (take n xs)) one
  where
    zero_plus : (k : ℕ) → 0 + k ≡ k
    zero_plus k = omega arith

-- where each point has one price, the inputs there pay it each
pub run_cost : (f : ℕ → ℕ) (price : ℕ) (counts : List ℕ) (from n : ℕ) → from + n ≤ length counts → ((p : ℕ) → from ≤ p → p < from + n → f p ≡ price)
    → sum_by (λ p. slice_index counts p * f p) (range_with_len from n) ≡ price * sum (take n (drop from counts))
run_cost f price counts from zero fits same = omega arith
run_cost f price counts from (suc n) fits same =
    let here : drop from counts ≡ get_or counts from 0 ∷ drop (from + 1) counts = rw add-one (drop-cons counts from 0 (omega arith)) in
    let part : sum (take (suc n) (drop from counts)) ≡ get_or counts from 0 + sum (take n (drop (from + 1) counts)) = ap (λ xs. sum (take (suc n) xs)) here ∙ first_sum n (get_or counts from 0) (drop (from + 1) counts) in
    let later = run_cost f price counts (from + 1) n (omega arith) (λ p low high. same p (omega arith) (omega arith)) in
    let first : slice_index counts from * f from ≡ price * get_or counts from 0 = ap (λ k. get_or counts from 0 * k) (same from (omega arith) (omega arith)) ∙ turned (get_or counts from 0) price in
    let whole = sum_by-cons (λ p. slice_index counts p * f p) from (range_with_len (from + 1) n) in
    let spread = shared price (get_or counts from 0) (sum (take n (drop (from + 1) counts))) in
    whole ∙ (ap (λ k. k + sum_by (λ p. slice_index counts p * f p) (range_with_len (from + 1) n)) first ∙ (ap (λ k. price * get_or counts from 0 + k) later ∙ (spread ∙ ap (λ k. price * k) (sym part))))
  where
    turned : (a b : ℕ) → a * b ≡ b * a
    turned a b = omega arith

    shared : (k a b : ℕ) → k * a + k * b ≡ k * (a + b)
    shared k a b = omega arith

-- the inputs of some points are some of all
pub part_sum : (counts : List ℕ) (from to : ℕ) → from ≤ to → sum (drop from counts) ≡ sum (slice_range counts from to) + sum (drop to counts)
part_sum counts from to order = ap sum (drop_split counts from to order) ∙ sum-append (slice_range counts from to) (drop to counts)

-- the points of a run have the names of the first one
pub run_prices : (old new : Entries) (pricing : Pricing) (p end : ℕ) (a b : List ℕ) → at old p ≡ Some a → at new p ≡ Some b → ((q : ℕ) → p ≤ q → q < end → at old q ≡ at old p) → ((q : ℕ) → p ≤ q → q < end → at new q ≡ at new p)
    → (q : ℕ) → p ≤ q → q < end → point_cost old new pricing q ≡ price_of pricing a b
run_prices old new pricing p end a b old_name new_name old_run new_run q low high =
    ap (λ o. price_of pricing (unwrap_or o []) (name_at new q)) (old_run q low high ∙ old_name) ∙ ap (λ o. price_of pricing a (unwrap_or o [])) (new_run q low high ∙ new_name)

-- the cost up to a run, and that of the run, whose points have one price
pub value_more : (old new : Entries) (pricing : Pricing) (counts : List ℕ) (p end cost price part : ℕ) (a b : List ℕ) → p ≤ end → end ≤ length counts → at old p ≡ Some a → at new p ≡ Some b
    → ((q : ℕ) → p ≤ q → q < end → at old q ≡ at old p) → ((q : ℕ) → p ≤ q → q < end → at new q ≡ at new p) → price ≡ price_of pricing a b → part ≡ sum (slice_range counts p end)
    → cost ≡ sum_by (λ q. slice_index counts q * point_cost old new pricing q) (range_with_len 0 p)
    → cost + price * part ≡ sum_by (λ q. slice_index counts q * point_cost old new pricing q) (range_with_len 0 end)
value_more old new pricing counts p end cost price part a b order inside old_name new_name old_run new_run priced parted value =
    let each = run_prices old new pricing p end a b old_name new_name old_run new_run in
    let run = run_cost (point_cost old new pricing) (price_of pricing a b) counts p (end - p) (omega arith) (λ q low high. each q low (omega arith)) in
    let split = sum-split (λ q. slice_index counts q * point_cost old new pricing q) p end order in
    let more : price * part ≡ sum_by (λ q. slice_index counts q * point_cost old new pricing q) (range_with_len p (end - p)) = ap (λ k. k * part) priced ∙ (ap (λ k. price_of pricing a b * k) parted ∙ sym run) in
    ap (λ k. k + price * part) value ∙ (ap (λ k. sum_by (λ q. slice_index counts q * point_cost old new pricing q) (range_with_len 0 p) + k) more ∙ sym split)

-- what is left to pay is at most the greatest price of each input that is left
pub small_more : (counts : List ℕ) (p end cost price part most : ℕ) → p ≤ end → price ≤ most → part ≡ sum (slice_range counts p end) → cost + most * sum (drop p counts) ≤ most * sum counts
    → cost + price * part + most * sum (drop end counts) ≤ most * sum counts
small_more counts p end cost price part most order small parted before =
    let split = part_sum counts p end order in
    let times : price * part ≤ most * part = mul-le-mul_right part small in
    let whole : most * sum (drop p counts) ≡ most * part + most * sum (drop end counts) = ap (λ k. most * k) (split ∙ ap (λ k. k + sum (drop end counts)) (sym parted)) ∙ shared most part (sum (drop end counts)) in
    omega (arith, before, times, whole)
  where
    shared : (k a b : ℕ) → k * (a + b) ≡ k * a + k * b
    shared k a b = omega arith
