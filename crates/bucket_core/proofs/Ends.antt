-- The entry that holds a point, found among the cumulative weights.
use Rattle.std.proofs.Common.{◌≡◌, ℕ, zero, suc, ◌+◌, ◌-◌, ◌<◌, ◌≤◌, ◌⊎◌, inl, inr, List, [], ◌∷◌, length, take, get_or, true, false, leb, ltb, Some, refl, sym, ap, ◌∙◌, subst, add-one, arith}
use Rattle.std.proofs.lemmas.Bool.{cases_lt, lt-ltb, le-ltb, leb-true, leb-false}
use Rattle.std.proofs.lemmas.List.{take-take, get_or_read}
use Rattle.std.proofs.lemmas.List.Sums.{sum_by-take-le, position_or_len_is}
use Rattle.std.proofs.lemmas.List.Sorted.{IsNonDecreasingBy-from_default, IsPartitionedBy-leb}
use Rattle.std.specs.List.{position_or_len}
use Rattle.std.specs.List.Sorted.{IsPartitionedBy, IsPartitionPoint}
use Rattle.bucket_core.specs.Rule.{Entries, total_weight, at, IsAround, ends_from, end_of, entry_at, entry_name, IsRun}
use Rattle.bucket_core.proofs.Points.{total_weight-cons, at_around}

-- ---- the cumulative weights

pub length-ends_from : (b : ℕ) (r : Entries) → length (ends_from b r) ≡ length r
unfolding ends_from
length-ends_from b [] = refl
length-ends_from b (e ∷ es) = ap suc (length-ends_from (b + e.1) es)

-- a cumulative weight is the sum of the weights so far
get_or-ends_from : (b : ℕ) (r : Entries) (i : ℕ) → i < length r → get_or (ends_from b r) i 0 ≡ b + total_weight (take (suc i) r)
unfolding ends_from
get_or-ends_from b [] i h = absurd (omega arith)
get_or-ends_from b (e ∷ es) zero h = omega (arith, total_weight-cons e [])
get_or-ends_from b (e ∷ es) (suc i) h = get_or-ends_from (b + e.1) es i (omega arith) ∙ omega (arith, total_weight-cons e (take (suc i) es))

pub end_of_is : (r : Entries) (i : ℕ) → i < length r → end_of r i ≡ total_weight (take (i + 1) r)
end_of_is r i h = rw add-one (get_or-ends_from 0 r i h ∙ omega arith)

take_weight : (r : Entries) (i j : ℕ) → i ≤ j → total_weight (take i r) ≤ total_weight (take j r)
take_weight r i j h =
    omega (arith, sum_by-take-le (λ (e : List ℕ × ℕ). e.1) (take j r) i, ap total_weight (take-take i j r h))

pub end_of-le : (r : Entries) (i : ℕ) → i < length r → end_of r i ≤ total_weight r
end_of-le r i h = omega (arith, end_of_is r i h, sum_by-take-le (λ (e : List ℕ × ℕ). e.1) r (i + 1))

-- the ends of entries never fall
pub end_of_rises : (r : Entries) (i j : ℕ) → i ≤ j → j < length r → end_of r i ≤ end_of r j
end_of_rises r i j h within =
    omega (arith, end_of_is r i (omega arith), end_of_is r j within, take_weight r (i + 1) (j + 1) (omega arith))

-- an entry's end, read where the cumulative weights are kept
module _ (r : Entries) (sums : List ℕ) (i : ℕ) (are : sums ≡ ends_from 0 r) (h : i < length r) where
  pub ends_cover : i < length sums
  ends_cover = omega (arith, ap length are, length-ends_from 0 r)

  pub end_read : (x : ℕ) → x ≡ get_or sums i x → x ≡ end_of r i
  end_read x is = get_or_read sums i x ends_cover is 0 ∙ ap (λ ends. get_or ends i 0) are

-- ---- halving finds the entry of a point

pub ends_part : (r : Entries) (p : ℕ) → IsPartitionedBy (λ end. leb end p) (ends_from 0 r)
ends_part r p =
    let same = length-ends_from 0 r in
    IsPartitionedBy-leb (λ (n : ℕ). n) (ends_from 0 r) p
    (IsNonDecreasingBy-from_default (λ (n : ℕ). n) (ends_from 0 r) 0 (λ i j h within. end_of_rises r i j h (omega arith)))

pub entry_at_part : (r : Entries) (p i : ℕ) → i ≤ length (ends_from 0 r) → IsPartitionPoint (λ end. leb end p ≡ true) (λ end. leb end p ≡ false) (ends_from 0 r) i → i ≡ entry_at r p
entry_at_part r p i bound part =
    let sums = ends_from 0 r in
    sym (position_or_len_is (λ end. ltb p end) sums i 0 bound
    (λ k h. le-ltb p (get_or sums k 0) (leb-true _ _ (part.0 k 0 (omega arith) h)))
    (λ h. lt-ltb p (get_or sums i 0) (leb-false _ _ (part.1 i 0 (omega arith) h))))

-- ---- that entry holds the point

-- the first entry whose cumulative weight exceeds q, where the weights are counted from b on
entry_from : ℕ → Entries → ℕ → ℕ
entry_from b r q = position_or_len (λ end. ltb q end) (ends_from b r)

entry_from-here : (b : ℕ) (e : List ℕ × ℕ) (es : Entries) (q : ℕ) → q < b + e.1 → entry_from b (e ∷ es) q ≡ 0
unfolding entry_from ends_from
entry_from-here b e es q h = rw (lt-ltb q (b + e.1) h) refl

entry_from-past : (b : ℕ) (e : List ℕ × ℕ) (es : Entries) (q : ℕ) → b + e.1 ≤ q → entry_from b (e ∷ es) q ≡ suc (entry_from (b + e.1) es q)
unfolding entry_from ends_from
entry_from-past b e es q h = rw (le-ltb q (b + e.1) h) (omega arith)

-- entry i lies around q, and around each later point up to its end
record Holds (b : ℕ) (r : Entries) (q i : ℕ) : Type 0 where
  name : List ℕ
  named : entry_name r i ≡ Some name
  within : i < length r
  below : q < get_or (ends_from b r) i 0
  around : (p : ℕ) → q ≤ b + p → b + p < get_or (ends_from b r) i 0 → IsAround r p name

holds_first : (b : ℕ) (e : List ℕ × ℕ) (es : Entries) (q : ℕ) → b ≤ q → q < b + e.1 → Holds b (e ∷ es) q 0
unfolding ends_from
holds_first b e es q low below = record {
  name = e.0;
  named = refl;
  within = omega arith;
  below = below;
  around = λ p from to. record { before = []; weight = e.1; after = es; parts = refl; from = omega arith; to = omega arith };
}

around_past : (e : List ℕ × ℕ) (es : Entries) (p : ℕ) (name : List ℕ) → e.1 ≤ p → IsAround es (p - e.1) name → IsAround (e ∷ es) p name
around_past e es p name past a =
    let sum = total_weight-cons e a.before in record {
      before = e ∷ a.before;
      weight = a.weight;
      after = a.after;
      parts = ap (λ es. e ∷ es) a.parts;
      from = omega (arith, a.from);
      to = omega (arith, a.to);
    }

holds_later : (b : ℕ) (e : List ℕ × ℕ) (es : Entries) (q i : ℕ) → b + e.1 ≤ q → Holds (b + e.1) es q i → Holds b (e ∷ es) q (suc i)
unfolding ends_from
holds_later b e es q i past h = record {
  name = h.name;
  named = h.named;
  within = omega (arith, h.within);
  below = h.below;
  around = λ p from to. around_past e es p h.name (omega arith) (h.around (p - e.1) (omega arith) (omega arith));
}

holds_by : (b : ℕ) (e : List ℕ × ℕ) (es : Entries) (q : ℕ) → b ≤ q → (b + e.1 ≤ q → Holds (b + e.1) es q (entry_from (b + e.1) es q)) → (q < b + e.1) ⊎ (b + e.1 ≤ q)
    → Holds b (e ∷ es) q (entry_from b (e ∷ es) q)
holds_by b e es q low later (inl below) = subst (λ i. Holds b (e ∷ es) q i) (sym (entry_from-here b e es q below)) (holds_first b e es q low below)
holds_by b e es q low later (inr past) = subst (λ i. Holds b (e ∷ es) q i) (sym (entry_from-past b e es q past)) (holds_later b e es q _ past (later past))

entry_from-holds : (b : ℕ) (r : Entries) (q : ℕ) → b ≤ q → q < b + total_weight r → Holds b r q (entry_from b r q)
entry_from-holds b [] q low high = absurd (omega arith)
entry_from-holds b (e ∷ es) q low high =
    let sum = total_weight-cons e es in
    holds_by b e es q low (λ past. entry_from-holds (b + e.1) es q past (omega arith)) (cases_lt q (b + e.1))

module _ (r : Entries) (p : ℕ) (h : p < total_weight r) where
  held : Holds 0 r p (entry_at r p)
  unfolding entry_from
  held = entry_from-holds 0 r p (omega arith) (omega arith)

  pub entry_at-lt : entry_at r p < length r
  entry_at-lt = held.within

  pub end_of-entry_at : p < end_of r (entry_at r p)
  end_of-entry_at = held.below

  -- the points from p up to the end of its entry have the name of the entry
  pub at-entry_at : (q : ℕ) → p ≤ q → q < end_of r (entry_at r p) → at r q ≡ entry_name r (entry_at r p)
  at-entry_at q from to = at_around r q held.name (held.around q (omega arith) (omega arith)) ∙ sym held.named

  pub at_here : at r p ≡ entry_name r (entry_at r p)
  at_here = at-entry_at p (omega arith) end_of-entry_at

  pub at_run : IsRun r p (end_of r (entry_at r p))
  at_run q from to = at-entry_at q from to ∙ sym at_here

  -- an entry of the name at the point lies around it
  pub around_at : (name : List ℕ) → at r p ≡ Some name → IsAround r p name
  around_at name is =
      let same : held.name ≡ name = cc (sym held.named, sym at_here, is) in
      subst (λ n. IsAround r p n) same (held.around p (omega arith) (omega (arith, end_of-entry_at)))
