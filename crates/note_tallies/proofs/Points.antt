-- The lines of counts.
use Rattle.std.proofs.Common.{◌≡◌, ◌≢◌, ◌<◌, ◌≤◌, ◌^◌, ◌+◌, ◌⊎◌, ℕ, zero, suc, List, [], ◌∷◌, ◌++◌, length, get_or, replicate, nat_lt, true, append_assoc, append-nil, refl, sym, ap, ap₂, ◌∙◌, subst, inl, inr, ⊎_elim, arith}
use borrow.Author.Tests.{lt-ltb}
use Rattle.note_tallies.specs.Point.{IsPointCount, point_line}
use Rattle.note_tallies.specs.declared.point.PointCount.{PointCount}
use Rattle.note_tallies.proofs.Spelled.{longer, one_point}
use Rattle.note_tallies.specs.File.{point_text, points_text}
use Rattle.note_tallies.specs.Reading.{AreSmall, IsPointBelow, BeginNoPoint}

pub points-append : (xs ys : List ℕ) (p : ℕ) → points_text p (xs ++ ys) ≡ points_text p xs ++ points_text (p + length xs) ys
points-append [] ys p =
    let same : p ≡ p + 0 = omega arith in
    ap (λ (q : ℕ). points_text q ys) same
points-append (x ∷ xs) ys p =
    let same : p + 1 + length xs ≡ p + length (x ∷ xs) = omega arith in
    ap (λ (t : List ℕ). point_text p x ++ t) (points-append xs ys (p + 1) ∙ ap (λ (q : ℕ). points_text (p + 1) xs ++ points_text q ys) same)
    ∙ sym (append_assoc (point_text p x) (points_text (p + 1) xs) (points_text (p + length (x ∷ xs)) ys))

pub points-zeros : (n p : ℕ) → points_text p (replicate n 0) ≡ []
points-zeros zero p = refl
points-zeros (suc n) p = points-zeros n (p + 1)

abbrev pub point : ℕ → ℕ → PointCount
point p n = record { point = p; inputs = n }

pub some_text : (p n : ℕ) → point_text p (suc n) ≡ point_line (point p (suc n))
some_text p n =
    let some : nat_lt 0 (suc n) ≡ true = lt-ltb 0 (suc n) (omega arith) in
    rw some refl

-- the line of a point, and what stands behind it
pub begins : (p n : ℕ) (xs rest : List ℕ) → points_text p (suc n ∷ xs) ++ rest ≡ point_line (point p (suc n)) ++ (points_text (p + 1) xs ++ rest)
begins p n xs rest = ap (λ (t : List ℕ). (t ++ points_text (p + 1) xs) ++ rest) (some_text p n) ∙ append_assoc (point_line (point p (suc n))) (points_text (p + 1) xs) rest

pub begins_alone : (p n : ℕ) (xs : List ℕ) → points_text p (suc n ∷ xs) ≡ point_line (point p (suc n)) ++ points_text (p + 1) xs
begins_alone p n xs = ap (λ (t : List ℕ). t ++ points_text (p + 1) xs) (some_text p n)

pub not_empty : (e : PointCount) (rest : List ℕ) → point_line e ++ rest ≢ []
not_empty e rest is =
    let more = longer (point_line e ++ rest) rest e refl in
    let none = ap length is in
    omega (arith, more, none)

-- counts behind the first
pub tail_small : (x : ℕ) (xs : List ℕ) → AreSmall (x ∷ xs) → AreSmall xs
tail_small x xs small = λ k. small (suc k)

-- what some counts begin with
pub record Begins (bytes : List ℕ) (total p : ℕ) : Type 0 where
  pub e : PointCount
  pub more : List ℕ
  pub below : IsPointBelow total e
  pub above : p ≤ e.point
  pub text : bytes ≡ point_line e ++ more

pub front : (ys : List ℕ) (p total : ℕ) (bytes : List ℕ) → AreSmall ys → p + length ys ≤ total → bytes ≡ points_text p ys → bytes ≢ [] → Begins bytes total p
front [] p total bytes small room is some = absurd (some is)
front (zero ∷ ys) p total bytes small room is some =
    let later = front ys (p + 1) total bytes (tail_small 0 ys small) (omega (arith, room)) is some in
    record { e = later.e; more = later.more; below = later.below; above = omega (arith, later.above); text = later.text }
front (suc n ∷ ys) p total bytes small room is some = record {
  e = point p (suc n);
  more = points_text (p + 1) ys;
  below = record { point = omega (arith, room); some = omega arith; few = small 0 };
  above = omega arith;
  text = is ∙ begins_alone p n ys;
}

pub counted : (total : ℕ) (e : PointCount) → total ≤ 2 ^ 32 → IsPointBelow total e → IsPointCount e
counted total e few below = record { point = omega (arith, few, below.point); inputs = below.few }

-- a point's line is not found among those of higher points: then the counts are all none, and it stands behind them
pub record Later (xs rest more : List ℕ) (e : PointCount) : Type 0 where
  pub none : (k : ℕ) → get_or xs k 0 ≡ 0
  pub text : rest ≡ point_line e ++ more

pub later : (xs : List ℕ) (p total : ℕ) (rest more : List ℕ) (e : PointCount) → total ≤ 2 ^ 32 → AreSmall xs → p + length xs ≤ total → IsPointBelow total e → e.point < p
    → points_text p xs ++ rest ≡ point_line e ++ more → Later xs rest more e
later [] p total rest more e few small room below low is = record { none = λ k. refl; text = is }
later (zero ∷ xs) p total rest more e few small room below low is =
    let next = later xs (p + 1) total rest more e few (tail_small 0 xs small) (omega (arith, room)) below (omega (arith, low)) is in
    record { none = λ k. none_of xs next.none k; text = next.text }
  where
    none_of : (ys : List ℕ) → ((k : ℕ) → get_or ys k 0 ≡ 0) → (k : ℕ) → get_or (0 ∷ ys) k 0 ≡ 0
    none_of ys none zero = refl
    none_of ys none (suc k) = none k
later (suc n ∷ xs) p total rest more e few small room below low is =
    let own : IsPointCount (point p (suc n)) = record { point = omega (arith, room, few); inputs = small 0 } in
    let same = one_point (point p (suc n)) e (points_text (p + 1) xs ++ rest) more own (counted total e few below) (sym (begins p n xs rest) ∙ is) in
    let at : p ≡ e.point = ap (λ (f : PointCount). f.point) same.0 in
    absurd (omega (arith, at, low))
