-- The lines of counts tell the counts, and whatever else they are cut into is told apart from the fault of a reader.
use Rattle.std.proofs.Common.{◌≡◌, ◌≢◌, ◌<◌, ◌≤◌, ◌^◌, ◌+◌, ◌⊎◌, ℕ, zero, suc, List, [], ◌∷◌, ◌++◌, length, get_or, refl, sym, ap, ap₂, ◌∙◌, inl, inr, ⊎_elim, arith}
use Rattle.note_tallies.specs.Point.{IsPointCount, point_line}
use Rattle.note_tallies.specs.declared.point.PointCount.{PointCount}
use Rattle.note_tallies.proofs.Spelled.{one_point}
use Rattle.note_tallies.specs.File.{points_text}
use Rattle.note_tallies.specs.Reading.{AreSmall, IsPointBelow, BeginNoPoint}
use Rattle.note_tallies.proofs.Points.{point, begins, begins_alone, not_empty, tail_small, front, counted, later}

own_point : (p n total : ℕ) (xs : List ℕ) → total ≤ 2 ^ 32 → p + length (suc n ∷ xs) ≤ total → AreSmall (suc n ∷ xs) → IsPointCount (point p (suc n))
own_point p n total xs few room small = record { point = omega (arith, few, room); inputs = small 0 }

own_below : (p n total : ℕ) (xs : List ℕ) → p + length (suc n ∷ xs) ≤ total → AreSmall (suc n ∷ xs) → IsPointBelow total (point p (suc n))
own_below p n total xs room small = record { point = omega (arith, room); some = omega arith; few = small 0 }

-- the line of a point is not that of a higher one
apart : (p n total : ℕ) (xs ys rest : List ℕ) → total ≤ 2 ^ 32 → p + length (suc n ∷ xs) ≤ total → p + 1 + length ys ≤ total → AreSmall (suc n ∷ xs) → AreSmall ys → points_text p (suc n ∷ xs) ++ rest ≡ points_text (p + 1) ys → ⊥
apart p n total xs ys rest few room place small also is =
    let text = sym (begins p n xs rest) ∙ is in
    let next = front ys (p + 1) total (point_line (point p (suc n)) ++ (points_text (p + 1) xs ++ rest)) also place text (not_empty (point p (suc n)) (points_text (p + 1) xs ++ rest)) in
    let same = one_point (point p (suc n)) next.e (points_text (p + 1) xs ++ rest) next.more (own_point p n total xs few room small) (counted total next.e few next.below) next.text in
    let at : p ≡ next.e.point = ap (λ (f : PointCount). f.point) same.0 in
    omega (arith, at, next.above)

both : (p m n total : ℕ) (xs ys rest : List ℕ) → total ≤ 2 ^ 32 → p + length (suc m ∷ xs) ≤ total → p + length (suc n ∷ ys) ≤ total → AreSmall (suc m ∷ xs) → AreSmall (suc n ∷ ys)
    → points_text p (suc m ∷ xs) ++ rest ≡ points_text p (suc n ∷ ys) → (suc m ≡ suc n) × (points_text (p + 1) xs ++ rest ≡ points_text (p + 1) ys)
both p m n total xs ys rest few room place small also is =
    let same = one_point (point p (suc m)) (point p (suc n)) (points_text (p + 1) xs ++ rest) (points_text (p + 1) ys) (own_point p m total xs few room small) (own_point p n total ys few place also) (sym (begins p m xs rest) ∙ is ∙ begins_alone p n ys) in
    (ap (λ (f : PointCount). f.inputs) same.0, same.1)

-- the lines of all counts leave nothing that begins with no point
pub no_line : (xs ys : List ℕ) (p total : ℕ) (rest : List ℕ) → total ≤ 2 ^ 32 → AreSmall xs → AreSmall ys → p + length xs ≤ total → p + length ys ≡ total
    → rest ≢ [] → BeginNoPoint total rest → points_text p xs ++ rest ≡ points_text p ys → ⊥
no_line [] ys p total rest few small also room place some none is =
    let next = front ys p total rest also (omega (arith, place)) is some in
    none next.e next.more next.below next.text
no_line (x ∷ xs) [] p total rest few small also room place some none is = omega (arith, room, place)
no_line (zero ∷ xs) (zero ∷ ys) p total rest few small also room place some none is =
    no_line xs ys (p + 1) total rest few (tail_small 0 xs small) (tail_small 0 ys also) (omega (arith, room)) (omega (arith, place)) some none is
no_line (zero ∷ xs) (suc n ∷ ys) p total rest few small also room place some none is =
    let below = own_below p n total ys (omega (arith, place)) also in
    let next = later xs (p + 1) total rest (points_text (p + 1) ys) (point p (suc n)) few (tail_small 0 xs small) (omega (arith, room)) below (omega arith) (is ∙ begins_alone p n ys) in
    none (point p (suc n)) (points_text (p + 1) ys) below next.text
no_line (suc m ∷ xs) (zero ∷ ys) p total rest few small also room place some none is =
    apart p m total xs ys rest few room (omega (arith, place)) small (tail_small 0 ys also) is
no_line (suc m ∷ xs) (suc n ∷ ys) p total rest few small also room place some none is =
    let next = both p m n total xs ys rest few room (omega (arith, place)) small also is in
    no_line xs ys (p + 1) total rest few (tail_small (suc m) xs small) (tail_small (suc n) ys also) (omega (arith, room)) (omega (arith, place)) some none next.1

-- ---- a point that stands behind an equal or a higher one

abbrev pub Low : ℕ → List ℕ → ℕ → Type 0
Low p xs at = (at < p) ⊎ ((k : ℕ) × (at ≤ p + k) × (0 < get_or xs k 0))

low_next : (p x : ℕ) (xs : List ℕ) (at : ℕ) → Low p (x ∷ xs) at → Low (p + 1) xs at
low_next p x xs at low =
    ⊎_elim
    (λ (below : at < p). inl (omega (arith, below)))
    (λ (k : (k : ℕ) × (at ≤ p + k) × (0 < get_or (x ∷ xs) k 0)). by_place k.0 k.1 k.2)
    low
  where
    by_place : (k : ℕ) → at ≤ p + k → 0 < get_or (x ∷ xs) k 0 → Low (p + 1) xs at
    by_place zero near some = inl (omega (arith, near))
    by_place (suc k) near some = inr (k, omega (arith, near), some)

low_none : (p : ℕ) (xs : List ℕ) (at : ℕ) → ((k : ℕ) → get_or xs k 0 ≡ 0) → Low p xs at → at < p
low_none p xs at none low =
    ⊎_elim
    (λ (below : at < p). below)
    (λ (k : (k : ℕ) × (at ≤ p + k) × (0 < get_or xs k 0)). let zeros = none k.0 in absurd (omega (arith, zeros, k.2)))
    low

low_zero : (p : ℕ) (xs : List ℕ) (at : ℕ) → ((k : ℕ) → get_or xs k 0 ≡ 0) → Low p (0 ∷ xs) at → at < p
low_zero p xs at none low = low_none p (0 ∷ xs) at (λ k. all k) low
  where
    all : (k : ℕ) → get_or (0 ∷ xs) k 0 ≡ 0
    all zero = refl
    all (suc k) = none k

pub no_low : (xs ys : List ℕ) (p total : ℕ) (rest more : List ℕ) (e : PointCount) → total ≤ 2 ^ 32 → AreSmall xs → AreSmall ys → p + length xs ≤ total → p + length ys ≡ total
    → IsPointBelow total e → rest ≡ point_line e ++ more → Low p xs e.point → points_text p xs ++ rest ≡ points_text p ys → ⊥
no_low [] ys p total rest more e few small also room place below text low is =
    let some : rest ≢ [] = λ none. not_empty e more (sym text ∙ none) in
    let next = front ys p total rest also (omega (arith, place)) is some in
    let same = one_point e next.e more next.more (counted total e few below) (counted total next.e few next.below) (sym text ∙ next.text) in
    let at : e.point ≡ next.e.point = ap (λ (f : PointCount). f.point) same.0 in
    let under = low_none p [] e.point (λ k. refl) low in
    omega (arith, at, next.above, under)
no_low (x ∷ xs) [] p total rest more e few small also room place below text low is = omega (arith, room, place)
no_low (zero ∷ xs) (zero ∷ ys) p total rest more e few small also room place below text low is =
    no_low xs ys (p + 1) total rest more e few (tail_small 0 xs small) (tail_small 0 ys also) (omega (arith, room)) (omega (arith, place)) below text (low_next p 0 xs e.point low) is
no_low (zero ∷ xs) (suc n ∷ ys) p total rest more e few small also room place below text low is =
    let own = own_below p n total ys (omega (arith, place)) also in
    let next = later xs (p + 1) total rest (points_text (p + 1) ys) (point p (suc n)) few (tail_small 0 xs small) (omega (arith, room)) own (omega arith) (is ∙ begins_alone p n ys) in
    let same = one_point e (point p (suc n)) more (points_text (p + 1) ys) (counted total e few below) (counted total (point p (suc n)) few own) (sym text ∙ next.text) in
    let at : e.point ≡ p = ap (λ (f : PointCount). f.point) same.0 in
    let under = low_zero p xs e.point next.none low in
    omega (arith, at, under)
no_low (suc m ∷ xs) (zero ∷ ys) p total rest more e few small also room place below text low is =
    apart p m total xs ys rest few room (omega (arith, place)) small (tail_small 0 ys also) is
no_low (suc m ∷ xs) (suc n ∷ ys) p total rest more e few small also room place below text low is =
    let next = both p m n total xs ys rest few room (omega (arith, place)) small also is in
    no_low xs ys (p + 1) total rest more e few (tail_small (suc m) xs small) (tail_small (suc n) ys also) (omega (arith, room)) (omega (arith, place)) below text (low_next p (suc m) xs e.point low) next.1

-- ---- counts of equal lines

apart_alone : (p n total : ℕ) (xs ys : List ℕ) → total ≤ 2 ^ 32 → p + length (suc n ∷ xs) ≤ total → p + 1 + length ys ≤ total → AreSmall (suc n ∷ xs) → AreSmall ys → points_text p (suc n ∷ xs) ≡ points_text (p + 1) ys → ⊥
apart_alone p n total xs ys few room place small also is =
    let text = sym (begins_alone p n xs) ∙ is in
    let next = front ys (p + 1) total (point_line (point p (suc n)) ++ points_text (p + 1) xs) also place text (not_empty (point p (suc n)) (points_text (p + 1) xs)) in
    let same = one_point (point p (suc n)) next.e (points_text (p + 1) xs) next.more (own_point p n total xs few room small) (counted total next.e few next.below) next.text in
    let at : p ≡ next.e.point = ap (λ (f : PointCount). f.point) same.0 in
    omega (arith, at, next.above)

pub same_counts : (xs ys : List ℕ) (p total : ℕ) → total ≤ 2 ^ 32 → AreSmall xs → AreSmall ys → p + length xs ≡ total → p + length ys ≡ total → points_text p xs ≡ points_text p ys → xs ≡ ys
same_counts [] [] p total few small also room place is = refl
same_counts [] (y ∷ ys) p total few small also room place is = absurd (omega (arith, room, place))
same_counts (x ∷ xs) [] p total few small also room place is = absurd (omega (arith, room, place))
same_counts (zero ∷ xs) (zero ∷ ys) p total few small also room place is =
    ap (λ (zs : List ℕ). 0 ∷ zs) (same_counts xs ys (p + 1) total few (tail_small 0 xs small) (tail_small 0 ys also) (omega (arith, room)) (omega (arith, place)) is)
same_counts (zero ∷ xs) (suc n ∷ ys) p total few small also room place is =
    absurd (apart_alone p n total ys xs few (omega (arith, place)) (omega (arith, room)) also (tail_small 0 xs small) (sym is))
same_counts (suc m ∷ xs) (zero ∷ ys) p total few small also room place is =
    absurd (apart_alone p m total xs ys few (omega (arith, room)) (omega (arith, place)) small (tail_small 0 ys also) is)
same_counts (suc m ∷ xs) (suc n ∷ ys) p total few small also room place is =
    let same = one_point (point p (suc m)) (point p (suc n)) (points_text (p + 1) xs) (points_text (p + 1) ys) (own_point p m total xs few (omega (arith, room)) small) (own_point p n total ys few (omega (arith, place)) also) (sym (begins_alone p m xs) ∙ is ∙ begins_alone p n ys) in
    ap₂ (λ (z : ℕ) (zs : List ℕ). z ∷ zs) (ap (λ (f : PointCount). f.inputs) same.0)
    (same_counts xs ys (p + 1) total few (tail_small (suc m) xs small) (tail_small (suc n) ys also) (omega (arith, room)) (omega (arith, place)) same.1)
