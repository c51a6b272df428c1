-- By how many inputs fall on each point it is known how many pass a test of their names.
use Rattle.std.proofs.Common.{◌≡◌, ℕ, zero, suc, ◌+◌, ◌*◌, ◌/◌, ◌%◌, ◌^◌, ◌<◌, ◌≤◌, ℤ, pos, ◌*ℤ◌, List, [], ◌∷◌, ◌++◌, length, get_or, drop, Bool, true, false, cond, sum, sum_by, count_by, refl, sym, ap, ◌∙◌, subst, arith}
use Rattle.std.specs.List.{range_with_len, slice_index}
use Rattle.std.specs.Prelude.{◌==◌}
use Rattle.std.proofs.lemmas.Bool.{eqb-true}
use Rattle.std.proofs.lemmas.Int.{ints}
use Rattle.std.proofs.lemmas.List.{drop_all, drop_more}
use Rattle.std.proofs.lemmas.List.Sums.{sum_by-cons, sum_by_push}
use Rattle.std.proofs.lemmas.Nat.{div-add-mod'}
use Rattle.std.proofs.Math.Nat.{div-div-eq-div-mul, mul-div_cancel, mul_comm}
use Rattle.murmur_core.specs.Murmur.{hash}
use Rattle.exposures.specs.Exposure.{Inputs}
use Rattle.exposures.specs.Counts.{counts_of}
use Rattle.bucket_core.specs.Point.{point_of}
use Rattle.bucket_core.specs.Rule.{Entries, total_weight}
use Rattle.price_core.specs.Cost.{name_at}
use Rattle.price_core.specs.Pricing.{Pair}
use Rattle.transport_core.specs.Dual.{inputs_at}
use Rattle.transport_core.specs.Sum.{sum_z}
use Rattle.transport_core.proofs.Costs.{counted_at, sum-counts}
use Rattle.transport_core.proofs.DualSums.{range_place}
use Rattle.transport_core.proofs.Inputs.{sum_placed}
use Rattle.transport_core.proofs.Points.{point_of-below}
use Rattle.transport_core.proofs.Regroup.{PicksOne, regroup, picks_one, once_in_range}
use Rattle.transport_core.proofs.Sums.{sum_z-pos}
use Rattle.rule_switches.specs.Counting.{Adds, AreTallied, Counted, HasCounted, names_at, names_of, users_of}

same_number : {a b : ℕ} → pos a ≡ pos b → a ≡ b
same_number same = cc

flagged : (b : Bool) (n : ℕ) → pos (cond b n 0) ≡ (pos n *ℤ pos (cond b 1 0))
flagged true n = omega (arith, ints)
flagged false n = omega (arith, ints)

-- the sum over the points of what passes is the number of the inputs that do, where the test tells of an input what it tells of its point
pub tallied : (total : ℕ) (inputs : Inputs) (at : ℕ → Bool) (of : List ℕ → Bool) → 0 < total → ((k : List ℕ) → of k ≡ at (point_of total k))
    → sum_by (λ p. cond (at p) (slice_index (counts_of inputs total) p) 0) (range_with_len 0 total) ≡ count_by of inputs
tallied total inputs at of some alike =
    let range = range_with_len 0 total in
    let counts = counts_of inputs total in
    let flag : ℕ → ℕ = λ p. cond (at p) 1 0 in
    let of_key : List ℕ → ℕ = λ k. cond (of k) 1 0 in
    let g : ℕ → ℕ = λ p. cond (at p) (slice_index counts p) 0 in
    let value : (k : List ℕ) → of_key k ≡ flag (point_of total k) = λ k. ap (λ (b : Bool). let n : ℕ = cond b 1 0 in n) (alike k) in
    let picks : (k : List ℕ) → PicksOne (λ p. point_of total k == p) range (λ p. pos (flag p)) (pos (of_key k)) =
    λ k. picks_one (λ p. point_of total k == p) (λ p. pos (flag p)) (pos (of_key k)) range (once_in_range (point_of total k) 0 total (omega arith) (omega (arith, point_of-below total k some)))
    (λ p same. ap (λ n. pos n) (ap flag (sym (eqb-true (point_of total k) p same)) ∙ sym (value k))) in
    let each : sum_z (λ p. pos (g p)) range ≡ sum_z (λ p. pos (inputs_at total inputs p) *ℤ pos (flag p)) range =
    sum_placed (λ p. pos (g p)) (λ p. pos (inputs_at total inputs p) *ℤ pos (flag p)) range (λ i p stands.
    ap (λ n. pos (cond (at p) n 0)) (counted_at inputs total counts p refl (omega (arith, range_place 0 total i p stands))) ∙ flagged (at p) (inputs_at total inputs p)) in
    same_number (sym (sum_z-pos g range) ∙ (each
    ∙ (sym (regroup (λ k p. point_of total k == p) (λ p. pos (flag p)) (λ k. pos (of_key k)) range inputs (λ i k is. picks k)) ∙ sum_z-pos of_key inputs)))

-- a point among m times as many, in proportion
scaled : (h w m : ℕ) → 0 < w → 0 < m → h * (w * m) / 2 ^ 32 * w / (w * m) ≡ h * w / 2 ^ 32
scaled h w m some times =
    let two = 2 ^ 32 in
    let x = h * w in
    let q = x * m / two in
    let all : h * (w * m) ≡ x * m = omega arith in
    let part : q * w / (w * m) ≡ q / m = sym (div-div-eq-div-mul (q * w) w m) ∙ ap (λ k. k / m) (mul-div_cancel q some) in
    ap (λ k. k / two * w / (w * m)) all ∙ (part ∙ (div-div-eq-div-mul (x * m) two m ∙ (ap (λ k. x * m / k) (mul_comm two m) ∙ (sym (div-div-eq-div-mul (x * m) m two) ∙ ap (λ k. k / two) (mul-div_cancel x times)))))

-- an input falls on the point of a rule that its point of a tally falls on, where the rule's total divides the tally's
pub point_in : (total w : ℕ) (k : List ℕ) → 0 < total → 0 < w → total % w ≡ 0 → point_of total k * w / total ≡ point_of w k
unfolding point_of
point_in total w k some weight divides =
    let m = total / w in
    let whole : total ≡ w * m = omega (arith, div-add-mod' total w, divides) in
    let times : 0 < m = positive m (omega (arith, whole, some)) in
    ap (λ n. hash k 0 * n / 2 ^ 32 * w / n) whole ∙ scaled (hash k 0) w m weight times
  where
    positive : (m : ℕ) → 0 < w * m → 0 < m
    positive zero h = absurd (omega (arith, h))
    positive (suc m) h = omega arith

-- the numbers of a tally are those of its inputs
pub has_tallied : (before after : Entries) (total : ℕ) (counts : List ℕ) (s : Counted) (inputs : Inputs) → 0 < total → 0 < total_weight before → 0 < total_weight after → total % total_weight before ≡ 0 → total % total_weight after ≡ 0
    → counts ≡ counts_of inputs total → AreTallied before after total counts s → HasCounted s inputs
has_tallied before after total counts s inputs some old new divides divides_too is are = record {
  number = are.inputs ∙ sum-counts inputs total counts some is;
  users = λ test.
      let span = are.rules.2 in
      let old_point : (k : List ℕ) → point_of total k * total_weight s.before / s.span ≡ point_of (total_weight s.before) k =
      λ k. ap (λ n. point_of total k * total_weight s.before / n) span ∙ point_in total (total_weight s.before) k some (subst (λ r. 0 < total_weight r) (sym are.rules.0) old) (subst (λ r. total % total_weight r ≡ 0) (sym are.rules.0) divides) in
      let new_point : (k : List ℕ) → point_of total k * total_weight s.after / s.span ≡ point_of (total_weight s.after) k =
      λ k. ap (λ n. point_of total k * total_weight s.after / n) span ∙ point_in total (total_weight s.after) k some (subst (λ r. 0 < total_weight r) (sym are.rules.1) new) (subst (λ r. total % total_weight r ≡ 0) (sym are.rules.1) divides_too) in
      are.users test
      ∙ (ap (λ cs. sum_by (λ p. cond (test (names_at s p)) (slice_index cs p) 0) (range_with_len 0 total)) is
      ∙ tallied total inputs (λ p. test (names_at s p)) (λ k. test (names_of s.before s.after k)) some (λ k i. test (name_at s.before ((sym (old_point k)) i), name_at s.after ((sym (new_point k)) i))));
}

-- ---- point by point

range_push : (a n : ℕ) → range_with_len a (n + 1) ≡ range_with_len a n ++ (a + n) ∷ []
range_push a zero =
    let one : 0 + 1 ≡ 1 = omega arith in
    let here : a ≡ a + 0 = omega arith in
    ap (range_with_len a) one ∙ ap (λ k. k ∷ []) here
range_push a (suc n) =
    let next : suc n + 1 ≡ suc (n + 1) = omega arith in
    let moved : (a + 1) + n ≡ a + suc n = omega arith in
    ap (range_with_len a) next ∙ ap (λ xs. a ∷ xs) (range_push (a + 1) n ∙ ap (λ k. range_with_len (a + 1) n ++ k ∷ []) moved)

-- the numbers of the points before one were counted
pub record IsBefore (before after : Entries) (total : ℕ) (counts : List ℕ) (n : ℕ) (s : Counted) : Type 0 where
  pub rules : (s.before ≡ before) × (s.after ≡ after) × (s.span ≡ total)
  pub inputs : s.inputs + sum (drop n counts) ≡ sum counts
  pub users : (test : Pair → Bool) → users_of s test ≡ sum_by (λ p. cond (test (names_at s p)) (slice_index counts p) 0) (range_with_len 0 n)

pub none_before : (before after : Entries) (total : ℕ) (counts : List ℕ) (s : Counted) → (s.before ≡ before) × (s.after ≡ after) → s.span ≡ total → HasCounted s [] → IsBefore before after total counts 0 s
none_before before after total counts s rules span none = record { rules = (rules.0, rules.1, span); inputs = omega (arith, none.number); users = none.users }

pub one_before : (before after : Entries) (total : ℕ) (counts : List ℕ) (n : ℕ) (s t : Counted) (count : ℕ) → n < length counts → count ≡ get_or counts n 0 → IsBefore before after total counts n s → Adds s t (names_at s n) count → IsBefore before after total counts (n + 1) t
one_before before after total counts n s t count inside is had adds = record {
  rules = (adds.before ∙ had.rules.0, adds.after ∙ had.rules.1, adds.span ∙ had.rules.2);
  inputs =
      let rest : sum (drop n counts) ≡ get_or counts n 0 + sum (drop (n + 1) counts) = ap sum (drop_more counts n 0 inside) ∙ sum_by-cons (λ x. x) (get_or counts n 0) (drop (n + 1) counts) in
      omega (arith, had.inputs, adds.inputs, rest, is);
  users = λ test.
      let f : ℕ → ℕ = λ p. cond (test (names_at s p)) (slice_index counts p) 0 in
      let from : 0 + n ≡ n = omega arith in
      let one : range_with_len 0 (n + 1) ≡ range_with_len 0 n ++ n ∷ [] = range_push 0 n ∙ ap (λ k. range_with_len 0 n ++ k ∷ []) from in
      let pushed : sum_by f (range_with_len 0 (n + 1)) ≡ sum_by f (range_with_len 0 n) + f n = ap (sum_by f) one ∙ sum_by_push f (range_with_len 0 n) n in
      let here : cond (test (names_at s n)) count 0 ≡ f n = ap (λ k. cond (test (names_at s n)) k 0) is in
      let same : sum_by f (range_with_len 0 (n + 1)) ≡ sum_by (λ p. cond (test (names_at t p)) (slice_index counts p) 0) (range_with_len 0 (n + 1)) =
      λ i. sum_by (λ p. cond (test (name_at ((sym adds.before) i) (p * total_weight ((sym adds.before) i) / ((sym adds.span) i)), name_at ((sym adds.after) i) (p * total_weight ((sym adds.after) i) / ((sym adds.span) i)))) (slice_index counts p) 0) (range_with_len 0 (n + 1)) in
      omega (arith, adds.counted test, had.users test, pushed, here) ∙ same;
}

pub all_before : (before after : Entries) (total : ℕ) (counts : List ℕ) (n : ℕ) (s : Counted) → n ≡ total → length counts ≤ n → IsBefore before after total counts n s → AreTallied before after total counts s
all_before before after total counts n s all past had = record {
  rules = had.rules;
  inputs = let none : sum (drop n counts) ≡ 0 = ap sum (drop_all n counts past) in omega (arith, had.inputs, none);
  users = λ test. had.users test ∙ ap (λ k. sum_by (λ p. cond (test (names_at s p)) (slice_index counts p) 0) (range_with_len 0 k)) all;
}
