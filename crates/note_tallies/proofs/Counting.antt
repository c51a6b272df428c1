-- Counts that grow by a point.
use Rattle.std.proofs.Common.{◌≡◌, ◌≢◌, ◌<◌, ◌≤◌, ◌^◌, ◌+◌, ◌-◌, ◌⊎◌, ℕ, zero, suc, List, [], ◌∷◌, ◌++◌, length, get_or, replicate, take, drop, nat_lt, ◌&&◌, Bool, true, false, if◌then◌else◌, count_by, append_assoc, append-nil, length-append, drop-cons, add-one, refl, sym, ap, ap₂, ◌∙◌, subst, inl, inr, ⊎_elim, arith}
use borrow.Author.Tests.{lt-ltb}
use Rattle.std.proofs.lemmas.List.{length-replicate, drop_all, take_all}
use Rattle.std.proofs.lemmas.Bool.{and_from}
use Rattle.std.proofs.lemmas.List.Sums.{sum_by-append, count_by-le-length}
use Rattle.std.proofs.lemmas.List.Folds.{sum_by-replicate}
use Rattle.note_tallies.specs.Point.{IsPointCount, point_line}
use Rattle.note_tallies.proofs.Spelled.{one_point}
use Rattle.note_tallies.specs.declared.point.PointCount.{PointCount}
use Rattle.note_tallies.specs.Tally.{most_points}
use Rattle.note_tallies.specs.Counts.{AreCounted}
use Rattle.note_tallies.specs.File.{point_text, points_text}
use Rattle.note_tallies.specs.Reading.{AreSmall, IsPointBelow, BeginNoPoint, BeginLow}
use Rattle.note_tallies.proofs.Points.{points-append, points-zeros, some_text, counted}

-- the next count is printed
pub step : (counts before after : List ℕ) (i : ℕ) → i < length counts → after ≡ before ++ point_text i (get_or counts i 0) → after ++ points_text (i + 1) (drop (i + 1) counts) ≡ before ++ points_text i (drop i counts)
step counts before after i within is =
    let rest : drop i counts ≡ get_or counts i 0 ∷ drop (i + 1) counts = rw (add-one, drop-cons counts i 0) refl in
    ap (λ (t : List ℕ). t ++ points_text (i + 1) (drop (i + 1) counts)) is
    ∙ append_assoc before (point_text i (get_or counts i 0)) (points_text (i + 1) (drop (i + 1) counts))
    ∙ ap (λ (cs : List ℕ). before ++ points_text i cs) (sym rest)

pub none_left : (counts text : List ℕ) (i : ℕ) → length counts ≤ i → text ++ points_text i (drop i counts) ≡ text
none_left counts text i all = ap (λ (cs : List ℕ). text ++ points_text i cs) (drop_all i counts all) ∙ append-nil text

-- ---- small numbers

pub small_append : (xs ys : List ℕ) → AreSmall xs → AreSmall ys → AreSmall (xs ++ ys)
small_append [] ys one other k = other k
small_append (x ∷ xs) ys one other zero = one 0
small_append (x ∷ xs) ys one other (suc k) = small_append xs ys (λ j. one (suc j)) other k

pub small_none : AreSmall []
small_none k = omega arith

pub small_zeros : (n : ℕ) → AreSmall (replicate n 0)
small_zeros zero k = omega arith
small_zeros (suc n) zero = omega arith
small_zeros (suc n) (suc k) = small_zeros n k

small_one : (n : ℕ) → n < 2 ^ 32 → AreSmall (n ∷ [])
small_one n few zero = few
small_one n few (suc k) = omega arith

-- ---- a point more

abbrev one_if : ℕ → ℕ
one_if n = if nat_lt 0 n then 1 else 0

zeros_in : (n : ℕ) → count_by (nat_lt 0) (replicate n 0) ≡ 0
zeros_in n =
    let all = sum_by-replicate one_if n 0 in
    omega (arith, all)

one_in : (n : ℕ) → 0 < n → count_by (nat_lt 0) (n ∷ []) ≡ 1
one_in n some =
    let here : nat_lt 0 n ≡ true = lt-ltb 0 n some in
    rw here refl

some_line : (p n : ℕ) → 0 < n → points_text p (n ∷ []) ≡ point_line (record { point = p; inputs = n })
some_line p zero some = absurd (omega arith)
some_line p (suc n) some = append-nil (point_text p (suc n)) ∙ some_text p n

pub next_counts : (bytes rest more counts new : List ℕ) (total n : ℕ) (e : PointCount) → AreCounted bytes total counts rest n → IsPointBelow total e → rest ≡ point_line e ++ more → length counts ≤ e.point
    → new ≡ counts ++ replicate (e.point - length counts) 0 ++ e.inputs ∷ [] → AreCounted bytes total new more (n + 1)
next_counts bytes rest more counts new total n e are below next high is =
    let gap = e.point - length counts in
    let zeros = replicate gap 0 in
    let front = counts ++ zeros in
    let size : length front ≡ e.point = (let a = length-append counts zeros in let b = length-replicate {A = ℕ} gap 0 in omega (arith, a, b, high)) in
    let all_size = length-append front (e.inputs ∷ []) in
    let front_text : points_text 0 front ≡ points_text 0 counts = points-append counts zeros 0 ∙ ap (λ (t : List ℕ). points_text 0 counts ++ t) (points-zeros gap (0 + length counts)) ∙ append-nil (points_text 0 counts) in
    let place : 0 + length front ≡ e.point = omega (arith, size) in
    let last : points_text (0 + length front) (e.inputs ∷ []) ≡ point_line e = ap (λ (q : ℕ). points_text q (e.inputs ∷ [])) place ∙ some_line e.point e.inputs below.some in
    let text : points_text 0 (front ++ e.inputs ∷ []) ≡ points_text 0 counts ++ point_line e = points-append front (e.inputs ∷ []) 0 ∙ ap₂ (λ (a b : List ℕ). a ++ b) front_text last in
    let number_front = sum_by-append one_if counts zeros in
    let number_all = sum_by-append one_if front (e.inputs ∷ []) in
    let none = zeros_in gap in
    let one = one_in e.inputs below.some in
    subst (λ (cs : List ℕ). AreCounted bytes total cs more (n + 1)) (sym is) (record {
      text = are.text ∙ ap (λ (r : List ℕ). points_text 0 counts ++ r) next ∙ sym (append_assoc (points_text 0 counts) (point_line e) more) ∙ ap (λ (t : List ℕ). t ++ more) (sym text);
      whole = omega (arith, all_size, size, below.point);
      small = small_append front (e.inputs ∷ []) (small_append counts zeros are.small (small_zeros gap)) (small_one e.inputs below.few);
      number = omega (arith, are.number, number_front, number_all, none, one);
    })

pub start_counts : (bytes : List ℕ) (total : ℕ) → AreCounted bytes total [] bytes 3
start_counts bytes total = record { text = refl; whole = omega arith; small = small_none; number = omega arith }

pub few_lines : (bytes rest counts : List ℕ) (total n : ℕ) → AreCounted bytes total counts rest n → n ≤ 3 + total
few_lines bytes rest counts total n are =
    let few = count_by-le-length (nat_lt 0) counts in
    omega (arith, are.number, are.whole, few)

-- the rest of the points have no inputs
pub end_text : (bytes counts new : List ℕ) (total n : ℕ) → AreCounted bytes total counts [] n → new ≡ counts ++ replicate (total - length counts) 0 → bytes ≡ points_text 0 new
end_text bytes counts new total n are is =
    let gap = total - length counts in
    are.text ∙ append-nil (points_text 0 counts)
    ∙ sym (points-append counts (replicate gap 0) 0 ∙ ap (λ (t : List ℕ). points_text 0 counts ++ t) (points-zeros gap (0 + length counts)) ∙ append-nil (points_text 0 counts))
    ∙ ap (points_text 0) (sym is)

pub end_size : (counts new : List ℕ) (total : ℕ) → length counts ≤ total → new ≡ counts ++ replicate (total - length counts) 0 → length new ≡ total
end_size counts new total whole is =
    let a = length-append counts (replicate (total - length counts) 0) in
    let b = length-replicate {A = ℕ} (total - length counts) 0 in
    let size = ap length is in
    omega (arith, a, b, size, whole)

-- ---- a point with inputs at or above each that is counted

abbrev pub Reach : List ℕ → Type 0
Reach counts = (p : ℕ) → p < length counts → (q : ℕ) × (p ≤ q) × (0 < get_or counts q 0)

last_at : (xs : List ℕ) (n : ℕ) → get_or (xs ++ n ∷ []) (length xs) 0 ≡ n
last_at [] n = refl
last_at (x ∷ xs) n = last_at xs n

pub next_reach : (front new : List ℕ) (n : ℕ) → 0 < n → new ≡ front ++ n ∷ [] → Reach new
next_reach front new n some is =
    subst Reach (sym is) (λ p within.
    let size = length-append front (n ∷ []) in
    let here = last_at front n in
    (length front, omega (arith, within, size), omega (arith, here, some)))

pub start_reach : Reach []
start_reach p within = absurd (omega (arith, within))

-- ---- a line of a point that the tally does not have

pub none_below : (bytes rest : List ℕ) (total : ℕ) (count : PointCount) (b : Bool) → total ≤ 2 ^ 32 → IsPointCount count → bytes ≡ point_line count ++ rest → b ≡ (nat_lt count.point total && nat_lt 0 count.inputs) → b ≡ false → BeginNoPoint total bytes
none_below bytes rest total count b few are line tells none = λ e more below is.
    let same = one_point count e rest more are (counted total e few below) (sym line ∙ is) in
    let place : count.point ≡ e.point = ap (λ (f : PointCount). f.point) same.0 in
    let inputs : count.inputs ≡ e.inputs = ap (λ (f : PointCount). f.inputs) same.0 in
    let low : nat_lt count.point total ≡ true = lt-ltb count.point total (omega (arith, place, below.point)) in
    let some : nat_lt 0 count.inputs ≡ true = lt-ltb 0 count.inputs (omega (arith, inputs, below.some)) in
    let yes : b ≡ true = tells ∙ and_from (nat_lt count.point total) (nat_lt 0 count.inputs) low some in
    cc

-- a point that is not above those counted
pub low_point : (counts rest more : List ℕ) (total : ℕ) (e : PointCount) → Reach counts → IsPointBelow total e → rest ≡ point_line e ++ more → e.point < length counts → BeginLow total counts rest
low_point counts rest more total e reach below is low =
    let high = reach e.point low in
    (e, more, high.0, below, is, high.1, high.2)

-- counts as they are pushed
pub resized : (counts new : List ℕ) (total n : ℕ) → length counts ≤ total → n ≡ length counts → new ≡ take total counts ++ replicate (total - n) 0 → new ≡ counts ++ replicate (total - length counts) 0
resized counts new total n whole size is =
    is ∙ ap₂ (λ (cs : List ℕ) (k : ℕ). cs ++ replicate (total - k) 0) (take_all total counts whole) size
