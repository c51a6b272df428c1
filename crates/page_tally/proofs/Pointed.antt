-- Counting inputs by their points is counting the inputs.
use Rattle.std.proofs.Common.{◌≡◌, ◌≢◌, ◌<◌, ◌≤◌, ◌+◌, ℕ, List, [], ◌∷◌, length, map, set, get_or, Option, Some, None, is_some, false, refl, sym, ap, ap₂, ◌∙◌, ⊎_elim, arith, length-set}
use Rattle.std.specs.Prelude.{IfSome}
use Rattle.std.proofs.lemmas.Bool.{cases_eq}
use Rattle.std.proofs.lemmas.List.{get_or-map, get_or-set_same, get_or-set_other, length-map}
use Rattle.bucket_core.specs.Point.{point_of}
use Rattle.bucket_core.proofs.Hashes.{point_of-below}
use Rattle.book_core.specs.Book.{Inputs, most_inputs}
use Rattle.page_tally.specs.Folding.{Kept, with_input, with_inputs, IsCounting, IsKept}
use Rattle.page_tally.specs.Points.{points_if, with_points}

abbrev pub kept : ℕ → Option ℕ → List ℕ → Kept
kept inputs total counts = record { inputs = inputs; total = total; counts = counts }

counted_points : (xs : Inputs) (i t : ℕ) (counts : List ℕ) → with_inputs (kept i (Some t) counts) xs ≡ kept (i + length xs) (Some t) (with_points counts (map (point_of t) xs))
counted_points [] i t counts = let same : i ≡ i + 0 = omega arith in ap (λ n. kept n (Some t) counts) same
counted_points (x ∷ xs) i t counts =
    let more = set counts (point_of t x) (get_or counts (point_of t x) 0 + 1) in
    let same : i + 1 + length xs ≡ i + length (x ∷ xs) = omega arith in
    counted_points xs (i + 1) t more ∙ ap (λ n. kept n (Some t) (with_points more (map (point_of t) xs))) same

passed : (xs : Inputs) (i : ℕ) (counts : List ℕ) → with_inputs (kept i None counts) xs ≡ kept (i + length xs) None counts
passed [] i counts = let same : i ≡ i + 0 = omega arith in ap (λ n. kept n None counts) same
passed (x ∷ xs) i counts =
    let same : i + 1 + length xs ≡ i + length (x ∷ xs) = omega arith in
    passed xs (i + 1) counts ∙ ap (λ n. kept n None counts) same

added_each : (total : Option ℕ) (xs : Inputs) (i : ℕ) (counts : List ℕ) → with_inputs (kept i total counts) xs ≡ kept (i + length xs) total (with_points counts (points_if total xs))
added_each None xs i counts = passed xs i counts
added_each (Some t) xs i counts = counted_points xs i t counts

-- inputs by their number and their points
pub added : (xs : Inputs) (k : Kept) (n : ℕ) (points counts : List ℕ) → n ≡ length xs → points ≡ points_if k.total xs → counts ≡ with_points k.counts points → kept (k.inputs + n) k.total counts ≡ with_inputs k xs
added xs k n points counts many is counted =
    ap₂ (λ m c. kept m k.total c) (ap (λ m. k.inputs + m) many) (counted ∙ ap (with_points k.counts) is) ∙ sym (added_each k.total xs k.inputs k.counts)

pub none_of : (o : Option ℕ) → is_some o ≡ false → o ≡ None
none_of None e = refl
none_of (Some t) e = cc

-- each point is one of those that are counted
pub points_inside : (total : Option ℕ) (xs : Inputs) (k : Kept) → IfSome total (IsCounting k) → (j d : ℕ) → j < length (points_if total xs) → get_or (points_if total xs) j d < length k.counts
points_inside None xs k counting j d below = absurd (omega (arith, below))
points_inside (Some t) xs k counting j d below =
    let at = get_or-map (point_of t) xs j [] d (omega (arith, below, length-map xs (point_of t))) in
    let low = point_of-below t (get_or xs j []) counting.allowed.some in
    omega (arith, at, low, counting.whole)

kept_one : (i : ℕ) (total : Option ℕ) (counts x : List ℕ) → IsKept (kept i total counts) → i < most_inputs → IsKept (with_input (kept i total counts) x)
kept_one i None counts x is room = record { few = omega (arith, room); counting = tt }
kept_one i (Some t) counts x is room =
    let q = point_of t x in
    let had = is.counting in
    let inside : q < length counts = omega (arith, had.whole, point_of-below t x had.allowed.some) in
    record {
      few = omega (arith, room);
      counting = record {
        allowed = had.allowed;
        whole = length-set counts q (get_or counts q 0 + 1) ∙ had.whole;
        small = λ p. ⊎_elim
            (λ (same : p ≡ q). let here = ap (λ j. get_or (set counts q (get_or counts q 0 + 1)) j 0) same ∙ get_or-set_same counts q (get_or counts q 0 + 1) 0 inside in omega (arith, here, had.small q))
            (λ (other : p ≢ q). let there = get_or-set_other counts q p (get_or counts q 0 + 1) 0 other in omega (arith, there, had.small p))
            (cases_eq p q);
      };
    }

-- as many inputs more as the page takes
pub kept_all : (xs : Inputs) (k : Kept) → IsKept k → k.inputs + length xs ≤ most_inputs → IsKept (with_inputs k xs)
kept_all [] k is room = is
kept_all (x ∷ xs) k is room = kept_all xs (with_input k x) (kept_one k.inputs k.total k.counts x is (omega (arith, room))) (omega (arith, room))
