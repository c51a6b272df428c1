-- Where no two inputs have one hash, the tally of their hashes is that of the inputs.
use Rattle.std.proofs.Common.{◌≡◌, ◌==◌, ◌+◌, ◌⊎◌, ℕ, if◌then◌else◌, List, [], ◌∷◌, ◌++◌, length, map, count_by, sum_by, eqb, refl, sym, ap, ◌∙◌, subst, inl, inr, ⊎_elim, arith}
use Rattle.std.specs.Prelude.{IsPermutation}
use Rattle.std.specs.Cmp.Lexicographic.{nat_list_cmp_total}
use Rattle.std.specs.List.{AllByRecursion, Contains, range_with_len}
use Rattle.std.specs.List.Sorted.{IsStrictlySortedBy}
use Rattle.std.specs.declared.cmp.Ordering.TheVariants.{Less, Equal}
use Rattle.std.proofs.lemmas.Cmp.{tied_itself}
use Rattle.std.proofs.lemmas.List.Elements.{Contains-append_cases, Contains-append_left, Contains-append_right, Contains-push, Contains-push_cases}
use Rattle.std.proofs.lemmas.List.Sorted.{IsPermutation-cons, IsPermutation-middle, IsPermutation-refl, IsPermutation-sym, IsPermutation-trans, length_permutation, sum_by-IsPermutation}
use Rattle.std.proofs.lemmas.List.{length-map}
use Rattle.std.proofs.lemmas.List.Sums.{sum_by-cons}
use Rattle.bucket_core.specs.Point.{point_of, scale}
use Rattle.book_core.specs.Book.{Inputs}
use Rattle.book_core.specs.Page.{PageName, bytes_cmp}
use Rattle.book_core.specs.Hashed.{hash_of}
use Rattle.note_tallies.specs.JoinLaw.{AreHashesOf, HashesStandForInputs, IsEachOnce, counts_by}
use Rattle.note_tallies.specs.Tally.{hash_line_on}

-- ---- what a list has

none_in : {X : Type 0} (x : X) → ¬ (Contains [] x)
none_in x c = omega (arith, c.1)

first_in : {X : Type 0} (x : X) (xs : List X) → Contains (x ∷ xs) x
first_in x xs = Contains-append_left (x ∷ []) xs x (Contains-push [] x)

later_in : {X : Type 0} (y : X) (xs : List X) (x : X) → Contains xs x → Contains (y ∷ xs) x
later_in y xs x c = Contains-append_right (y ∷ []) xs x c

which : {X : Type 0} (y : X) (xs : List X) (x : X) → Contains (y ∷ xs) x → (y ≡ x) ⊎ Contains xs x
which y xs x c = elim (Contains-append_cases (y ∷ []) xs x c) [
  | inl one ↦ elim (Contains-push_cases [] y x one) [
    | inl none ↦ absurd (none_in x none)
    | inr same ↦ inl same
  ]
  | inr later ↦ inr later
]

-- a list around what it has
record Around (xs : List ℕ) (x : ℕ) : Type 0 where
  front : List ℕ
  rest : List ℕ
  parts : xs ≡ front ++ x ∷ rest

around : (xs : List ℕ) (x : ℕ) → Contains xs x → Around xs x
around [] x c = absurd (none_in x c)
around (y ∷ xs) x c = elim (which y xs x c) [
  | inl same ↦ record { front = []; rest = xs; parts = ap (λ (z : ℕ). z ∷ xs) same }
  | inr later ↦ let a = around xs x later in record { front = y ∷ a.front; rest = a.rest; parts = ap (λ (l : List ℕ). y ∷ l) a.parts }
]

-- ---- lists of the same numbers, each there once

-- without one in the middle each is there once, and that one is not there
once_around : (front : List ℕ) (x : ℕ) (rest : List ℕ) → IsEachOnce (front ++ x ∷ rest) → IsEachOnce (front ++ rest) × ¬ (Contains (front ++ rest) x)
once_around [] x rest once = (once.1, once.0)
once_around (y ∷ front) x rest once =
    let later = once_around front x rest once.1 in
    let apart : ¬ (y ≡ x) = λ same. once.0 (subst (Contains (front ++ x ∷ rest)) (sym same) (Contains-append_right front (x ∷ rest) x (first_in x rest))) in (
      (λ c. once.0 (widened front x rest y c), later.0),
      λ c. (elim (which y (front ++ rest) x c) [
        | inl same ↦ apart same
        | inr there ↦ later.1 there
      ]),
    )
  where
    widened : (front : List ℕ) (x : ℕ) (rest : List ℕ) (y : ℕ) → Contains (front ++ rest) y → Contains (front ++ x ∷ rest) y
    widened front x rest y c = elim (Contains-append_cases front rest y c) [
      | inl left ↦ Contains-append_left front (x ∷ rest) y left
      | inr right ↦ Contains-append_right front (x ∷ rest) y (later_in x rest y right)
    ]

-- what a list has beside one in the middle
beside : (front : List ℕ) (x : ℕ) (rest : List ℕ) (y : ℕ) → Contains (front ++ x ∷ rest) y → (x ≡ y) ⊎ Contains (front ++ rest) y
beside front x rest y c = elim (Contains-append_cases front (x ∷ rest) y c) [
  | inl left ↦ inr (Contains-append_left front rest y left)
  | inr right ↦ elim (which x rest y right) [
    | inl same ↦ inl same
    | inr later ↦ inr (Contains-append_right front rest y later)
  ]
]

with_middle : (front : List ℕ) (x : ℕ) (rest : List ℕ) (y : ℕ) → Contains (front ++ rest) y → Contains (front ++ x ∷ rest) y
with_middle front x rest y c = elim (Contains-append_cases front rest y c) [
  | inl left ↦ Contains-append_left front (x ∷ rest) y left
  | inr right ↦ Contains-append_right front (x ∷ rest) y (later_in x rest y right)
]

abbrev Same : List ℕ → List ℕ → Type 0
Same xs ys = (z : ℕ) → (Contains xs z → Contains ys z) × (Contains ys z → Contains xs z)

moved : (xs ys : List ℕ) → IsEachOnce xs → IsEachOnce ys → Same xs ys → IsPermutation xs ys
moved [] [] once also same = IsPermutation-refl []
moved [] (y ∷ ys) once also same = absurd (none_in y ((same y).1 (first_in y ys)))
moved (x ∷ xs) ys once also same =
    let a = around ys x ((same x).0 (first_in x xs)) in
    let parts = once_around a.front x a.rest (subst IsEachOnce a.parts also) in
    let there : Same xs (a.front ++ a.rest) = λ z. (
      λ c. (elim (beside a.front x a.rest z (subst (λ (l : List ℕ). Contains l z) a.parts ((same z).0 (later_in x xs z c)))) [
        | inl is ↦ absurd (once.0 (subst (Contains xs) (sym is) c))
        | inr other ↦ other
      ]),
      λ c. (elim (which x xs z ((same z).1 (subst (λ (l : List ℕ). Contains l z) (sym a.parts) (with_middle a.front x a.rest z c)))) [
        | inl is ↦ absurd (parts.1 (subst (Contains (a.front ++ a.rest)) (sym is) c))
        | inr later ↦ later
      ]),
    ) in
    let rest = moved xs (a.front ++ a.rest) once.1 parts.0 there in
    subst (IsPermutation (x ∷ xs)) (sym a.parts)
    (IsPermutation-trans (x ∷ xs) (x ∷ (a.front ++ a.rest)) (a.front ++ x ∷ a.rest) (IsPermutation-cons x xs (a.front ++ a.rest) rest) (IsPermutation-sym (a.front ++ x ∷ a.rest) (x ∷ (a.front ++ a.rest)) (IsPermutation-middle a.front x a.rest)))

-- ---- rising lines

-- what is there again has an equal line
again : (page : PageName) (hash : ℕ) (hashes : List ℕ) → AllByRecursion (λ (l : List ℕ). bytes_cmp (hash_line_on page hash) l ≡ Less) (map (hash_line_on page) hashes) → ¬ (Contains hashes hash)
again page hash [] above c = none_in hash c
again page hash (next ∷ hashes) above c = elim (which next hashes hash c) [
  | inl same ↦ (
      let tied : bytes_cmp (hash_line_on page hash) (hash_line_on page next) ≡ Equal = ap (λ (h : ℕ). bytes_cmp (hash_line_on page hash) (hash_line_on page h)) same ∙ tied_itself nat_list_cmp_total (hash_line_on page hash) in
      let less : bytes_cmp (hash_line_on page hash) (hash_line_on page next) ≡ Less = above.0 in
      cc)
  | inr later ↦ again page hash hashes above.1 later
]

once : (page : PageName) (hashes : List ℕ) → IsStrictlySortedBy bytes_cmp (map (hash_line_on page) hashes) → IsEachOnce hashes
unfolding IsStrictlySortedBy
once page [] rising = tt
once page (hash ∷ hashes) rising = (again page hash hashes rising.0, once page hashes rising.1)

-- ---- counts

-- an input is at the point of its hash
at_hash : (total p : ℕ) (inputs : Inputs) → count_by (λ hash. scale total hash == p) (map hash_of inputs) ≡ count_by (λ input. point_of total input == p) inputs
unfolding point_of
at_hash total p [] = refl
at_hash total p (input ∷ inputs) =
    let one = sum_by-cons (λ (hash : ℕ). if eqb (scale total hash) p then 1 else 0) (hash_of input) (map hash_of inputs) in
    let other = sum_by-cons (λ (input : List ℕ). if eqb (scale total (hash_of input)) p then 1 else 0) input inputs in
    let later = at_hash total p inputs in
    one ∙ ap (λ (n : ℕ). (if eqb (scale total (hash_of input)) p then 1 else 0) + n) later ∙ sym other

counts_alike : (total : ℕ) (hashes : List ℕ) (inputs : Inputs) → IsPermutation hashes (map hash_of inputs) → counts_by scale hashes total ≡ counts_by point_of inputs total
counts_alike total hashes inputs same =
    λ i. map (λ (p : ℕ). (sym (sum_by-IsPermutation (λ (hash : ℕ). if eqb (scale total hash) p then 1 else 0) hashes (map hash_of inputs) same) ∙ at_hash total p inputs) i) (range_with_len 0 total)

pub stand_for_inputs : HashesStandForInputs
stand_for_inputs t hashes inputs range are each =
    let same = moved hashes (map hash_of inputs) (once t.page hashes range.rising) each are in
    record {
      inputs = range.tally.inputs ∙ sym (length_permutation hashes (map hash_of inputs) same) ∙ length-map inputs hash_of;
      counts = range.tally.counts ∙ counts_alike t.total hashes inputs same;
    }
