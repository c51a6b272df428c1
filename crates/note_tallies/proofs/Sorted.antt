-- Notes whose lines rise are all tallied, and the lines of a page of a book can be put so.
use Rattle.std.proofs.Common.{◌≡◌, ◌≢◌, ◌<◌, ◌≤◌, ◌+◌, ℕ, Bool, true, false, if◌then◌else◌, eqb, List, [], ◌∷◌, map, length, get_or, Option, Some, None, IfSome, Result, Ok, refl, sym, ap, ◌∙◌, subst, ⊎_elim, arith, length-set}
use Rattle.std.specs.Cmp.Lexicographic.{nat_list_cmp_total}
use Rattle.std.specs.List.{AllByRecursion}
use Rattle.std.specs.List.Sorted.{IsStrictlySortedBy}
use Rattle.std.specs.FinMap.{nat_cmp-IsAntisymmetric, slice_cmp-IsAntisymmetric}
use Rattle.std.specs.Ordering.{is_eq, is_lt, ordering_reverse}
use Rattle.std.specs.Prelude.{IsPermutation}
use Rattle.std.specs.declared.cmp.Ordering.{Ordering}
use Rattle.std.specs.declared.cmp.Ordering.TheVariants.{Less, Equal, Greater}
use Rattle.std.proofs.lemmas.Bool.{cases_Bool}
use Rattle.std.proofs.lemmas.Cmp.{tied_itself}
use Rattle.std.proofs.lemmas.List.{length-replicate}
use Rattle.std.proofs.lemmas.List.Elements.{All-from_recursion, recursion_from_All}
use Rattle.std.proofs.lemmas.List.Sorted.{All-permutation, IsPermutation-cons, IsPermutation-middle, IsPermutation-refl, IsPermutation-sym, IsPermutation-trans, length_permutation}
use Rattle.bucket_core.specs.Point.{point_of}
use Rattle.bucket_core.proofs.Hashes.{point_of-below}
use Rattle.book_core.specs.Book.{Inputs}
use Rattle.book_core.specs.Page.{PageName, bytes_cmp, page_eq}
use Rattle.book_core.specs.PageOrder.{pages_total}
use Rattle.book_core.proofs.Ordered.{All-weaker}
use Rattle.book_core.proofs.Taken.{is_less}
use Rattle.page_tally.specs.Folding.{is_above_last}
use Rattle.note_lines.specs.Note.{IsNote, Noted, note_line}
use Rattle.note_lines.specs.Hashed.{has_hash}
use Rattle.note_lines.proofs.OneKind.{input_kind}
use Rattle.note_lines.proofs.Lines.{one_note}
use Rattle.note_tallies.specs.JoinLaw.{TalliesInAnyOrder, lines_on}
use Rattle.note_tallies.specs.Tally.{line_on, most_at_point, noted_on}
use Rattle.note_tallies.proofs.Zeros.{zero_all}
use Rattle.note_tallies.specs.Law.{BookPagesAreTallied, SortedNotesAreTallied, inputs_of, with_notes}
use Rattle.note_tallies.specs.Lines.{Tallied, finished, has_room, is_alike, of_input, passed, tallied, untallied, with_said}
use Rattle.note_tallies.specs.declared.fault.LineTallyFault.{LineTallyFault}
use Rattle.note_tallies.proofs.Counted.{one_at}
use Rattle.note_tallies.proofs.Kept.{room_is}
use Rattle.note_tallies.proofs.Tallying.{Follows, inputs_here, inputs_there, tally_of_notes}

-- ---- there is room

-- on no point are more inputs than in all
record Fits (t : Tallied) : Type 0 where
  some : 0 < t.total
  whole : length t.counts ≡ t.total
  few : (p : ℕ) → get_or t.counts p 0 ≤ t.inputs

at_most_one : (b : Bool) → (if b then 1 else 0) ≤ 1
at_most_one true = omega arith
at_most_one false = omega arith

fits_next : (t : Tallied) (line input : List ℕ) → Fits t → Fits (tallied t line (point_of t.total input))
fits_next t line input fits =
    let q = point_of t.total input in
    let inside : q < length t.counts = omega (arith, fits.whole, point_of-below t.total input fits.some) in
    record {
      some = fits.some;
      whole = length-set t.counts q (get_or t.counts q 0 + 1) ∙ fits.whole;
      few = λ p. (let here = one_at t.counts q p inside in let old = fits.few p in let one = at_most_one (eqb q p) in omega (arith, here, old, one));
    }

fits_first : (page : PageName) (total : ℕ) → 0 < total → Fits (untallied page total)
fits_first page total some = record {
  some = some;
  whole = length-replicate {A = ℕ} total 0;
  few = λ p. (let none = zero_all total p in omega (arith, none));
}

-- ---- no line is refused

abbrev Taken : Tallied → List Noted → Type 0
Taken t notes = (u : Tallied) × (with_notes (Ok t) notes ≡ Ok u)

one_taken : (t : Tallied) (note : Noted) → is_above_last t.before (note_line note) ≡ true → is_alike t.before (note_line note) ≡ true → page_eq note.page t.page ≡ true → has_room t (point_of t.total note.input) ≡ true
    → with_said t (of_input note) ≡ Ok (tallied t (note_line note) (point_of t.total note.input))
one_taken t note above alike same room = rw (above, alike, same, room) refl

one_passed : (t : Tallied) (note : Noted) → is_above_last t.before (note_line note) ≡ true → is_alike t.before (note_line note) ≡ true → page_eq note.page t.page ≡ false → with_said t (of_input note) ≡ Ok (passed t (note_line note))
one_passed t note above alike other = rw (above, alike, other) refl

-- the line before it has an input
abbrev HadInput : Option (List ℕ) → Type 0
HadInput before = IfSome before (λ line. has_hash line ≡ false)

input_alike : (before : Option (List ℕ)) (note : Noted) → HadInput before → is_alike before (note_line note) ≡ true
input_alike None note had = refl
input_alike (Some before) note had = rw (had, input_kind note) refl

all_taken : (notes : List Noted) (t : Tallied) → Fits t → HadInput t.before → Follows t.before (map note_line notes) → t.inputs + length (inputs_of t.page notes) ≤ most_at_point → Taken t notes
all_taken [] t fits had follows few = (t, refl)
all_taken (note ∷ notes) t fits had follows few =
    let alike = input_alike t.before note had in
    ⊎_elim
    (λ (same : page_eq note.page t.page ≡ true).
    let here = ap length (inputs_here t.page note notes same) in
    let at = point_of t.total note.input in
    let some = fits.few at in
    let room = room_is t at (omega (arith, few, here)) (omega (arith, few, here, some)) in
    let next = tallied t (note_line note) at in
    let later = all_taken notes next (fits_next t (note_line note) note.input fits) (input_kind note) follows.1 (omega (arith, few, here)) in
    (later.0, ap (λ (r : Result Tallied LineTallyFault). with_notes r notes) (one_taken t note follows.0 alike same room) ∙ later.1))
    (λ (other : page_eq note.page t.page ≡ false).
    let there = ap length (inputs_there t.page note notes other) in
    let next = passed t (note_line note) in
    let later = all_taken notes next (record { some = fits.some; whole = fits.whole; few = fits.few }) (input_kind note) follows.1 (omega (arith, few, there)) in
    (later.0, ap (λ (r : Result Tallied LineTallyFault). with_notes r notes) (one_passed t note follows.0 alike other) ∙ later.1))
    (cases_Bool (page_eq note.page t.page))

follow : (x : List ℕ) (xs : List (List ℕ)) → IsStrictlySortedBy bytes_cmp (x ∷ xs) → Follows (Some x) xs
unfolding IsStrictlySortedBy
follow x [] rising = tt
follow x (y ∷ ys) rising = (ap is_lt rising.0.0, follow y ys rising.1)

follow_first : (xs : List (List ℕ)) → IsStrictlySortedBy bytes_cmp xs → Follows None xs
follow_first [] rising = tt
follow_first (x ∷ xs) rising = (refl, follow x xs rising)

pub sorted_notes : TalliesInAnyOrder → SortedNotesAreTallied
sorted_notes any page total notes inputs some rising same few =
    let size = length_permutation (inputs_of page notes) inputs same in
    let taken = all_taken notes (untallied page total) (fits_first page total some) tt (follow_first (map note_line notes) rising) (omega (arith, few, size)) in
    let is = tally_of_notes page total notes taken.0 some taken.1 in
    (taken.0, taken.1, is.same, any (finished taken.0) (inputs_of page notes) inputs is.tally.tally same)

-- ---- lines can be put so

module _ (page : PageName) where
  abbrev below : List ℕ → List ℕ → Bool
  below x y = is_lt (bytes_cmp (line_on page x) (line_on page y))

  abbrev put_in : List ℕ → Inputs → Inputs
  put_in x [] = x ∷ []
  put_in x (y ∷ ys) = if below x y then x ∷ y ∷ ys else y ∷ put_in x ys

  abbrev in_order : Inputs → Inputs
  in_order [] = []
  in_order (x ∷ xs) = put_in x (in_order xs)

  put_moves : (x : List ℕ) (ys : Inputs) → IsPermutation (x ∷ ys) (put_in x ys)
  put_moves x [] = IsPermutation-refl (x ∷ [])
  put_moves x (y ∷ ys) =
      elim (below x y) as (λ b. IsPermutation (x ∷ y ∷ ys) (if b then x ∷ y ∷ ys else y ∷ put_in x ys)) [
        | true ↦ IsPermutation-refl (x ∷ y ∷ ys)
        | false ↦ IsPermutation-trans (x ∷ y ∷ ys) (y ∷ x ∷ ys) (y ∷ put_in x ys) (IsPermutation-middle (x ∷ []) y ys) (IsPermutation-cons y (x ∷ ys) (put_in x ys) (put_moves x ys))
      ]

  order_moves : (xs : Inputs) → IsPermutation xs (in_order xs)
  order_moves [] = IsPermutation-refl []
  order_moves (x ∷ xs) = IsPermutation-trans (x ∷ xs) (x ∷ in_order xs) (put_in x (in_order xs)) (IsPermutation-cons x xs (in_order xs) (order_moves xs)) (put_moves x (in_order xs))

  -- what holds of the lines of x and of ys
  put_all : (P : List ℕ → Type 0) (x : List ℕ) (ys : Inputs) → P (line_on page x) → AllByRecursion P (lines_on page ys) → AllByRecursion P (lines_on page (put_in x ys))
  put_all P x [] one all = (one, tt)
  put_all P x (y ∷ ys) one all =
      elim (below x y) as (λ b. AllByRecursion P (lines_on page (if b then x ∷ y ∷ ys else y ∷ put_in x ys))) [
        | true ↦ (one, all)
        | false ↦ (all.0, put_all P x ys one all.1)
      ]

  other_way : (a b : List ℕ) → a ≢ b → is_lt (bytes_cmp a b) ≡ false → bytes_cmp b a ≡ Less
  other_way a b apart above =
      by (bytes_cmp a b) (bytes_cmp b a) above (λ e. apart (slice_cmp-IsAntisymmetric nat_cmp-IsAntisymmetric a b e)) (nat_list_cmp_total.antisymm b a)
    where
      by : (r s : Ordering) → is_lt r ≡ false → r ≢ Equal → s ≡ ordering_reverse r → s ≡ Less
      by Less s above apart is = cc
      by Equal s above apart is = absurd (apart refl)
      by Greater s above apart is = is

  put_rises : (x : List ℕ) (ys : Inputs) → AllByRecursion (λ (l : List ℕ). line_on page x ≢ l) (lines_on page ys) → IsStrictlySortedBy bytes_cmp (lines_on page ys) → IsStrictlySortedBy bytes_cmp (lines_on page (put_in x ys))
  unfolding IsStrictlySortedBy
  put_rises x [] apart rising = (tt, tt)
  put_rises x (y ∷ ys) apart rising =
      ⊎_elim
      (λ (first : below x y ≡ true).
      let less : bytes_cmp (line_on page x) (line_on page y) ≡ Less = is_less (bytes_cmp (line_on page x) (line_on page y)) first in
      let all = All-weaker (λ (z : List ℕ). bytes_cmp (line_on page y) z ≡ Less) (λ (z : List ℕ). bytes_cmp (line_on page x) z ≡ Less) (lines_on page ys) (λ z high. nat_list_cmp_total.trans (line_on page x) (line_on page y) z less high) rising.0 in
      subst (λ b. IsStrictlySortedBy bytes_cmp (lines_on page (if b then x ∷ y ∷ ys else y ∷ put_in x ys))) (sym first) ((less, all), rising))
      (λ (later : below x y ≡ false).
      let less : bytes_cmp (line_on page y) (line_on page x) ≡ Less = other_way (line_on page x) (line_on page y) apart.0 later in
      let all = put_all (λ (z : List ℕ). bytes_cmp (line_on page y) z ≡ Less) x ys less rising.0 in
      subst (λ b. IsStrictlySortedBy bytes_cmp (lines_on page (if b then x ∷ y ∷ ys else y ∷ put_in x ys))) (sym later) (all, put_rises x ys apart.1 rising.1))
      (cases_Bool (below x y))

  abbrev Apart : List ℕ → List ℕ → Type 0
  Apart x y = line_on page x ≢ line_on page y

  apart_lines : (x : List ℕ) (ys : Inputs) → AllByRecursion (Apart x) ys → AllByRecursion (λ (l : List ℕ). line_on page x ≢ l) (lines_on page ys)
  apart_lines x [] all = tt
  apart_lines x (y ∷ ys) all = (all.0, apart_lines x ys all.1)

  -- different inputs have different lines
  apart_from : (x : List ℕ) (ys : Inputs) → IsNote (noted_on page x) → AllByRecursion (λ (y : List ℕ). IsNote (noted_on page y)) ys → AllByRecursion (λ (y : List ℕ). bytes_cmp x y ≡ Less) ys → AllByRecursion (Apart x) ys
  apart_from x [] note notes less = tt
  apart_from x (y ∷ ys) note notes less = (
    λ same. (let inputs : x ≡ y = ap (λ (n : Noted). n.input) (one_note (noted_on page x) (noted_on page y) note notes.0 same) in
        let tied : bytes_cmp x y ≡ Equal = ap (λ (z : List ℕ). bytes_cmp x z) (sym inputs) ∙ tied_itself nat_list_cmp_total x in
        let e = less.0 in cc),
    apart_from x ys note notes.1 less.1,
  )

  order_rises : (xs : Inputs) → AllByRecursion (λ (x : List ℕ). IsNote (noted_on page x)) xs → IsStrictlySortedBy bytes_cmp xs → IsStrictlySortedBy bytes_cmp (lines_on page (in_order xs))
  unfolding IsStrictlySortedBy
  order_rises [] notes rising = tt
  order_rises (x ∷ xs) notes rising =
      let apart = apart_from x xs notes.0 notes.1 rising.0 in
      let moved = recursion_from_All (Apart x) (in_order xs) (All-permutation (Apart x) xs (in_order xs) (order_moves xs) (All-from_recursion (Apart x) xs apart)) in
      put_rises x (in_order xs) (apart_lines x (in_order xs) moved) (order_rises xs notes.1 rising.1)

  lines_are : (xs : Inputs) → map note_line (map (noted_on page) xs) ≡ lines_on page xs
  lines_are [] = refl
  lines_are (x ∷ xs) = ap (λ (ls : List (List ℕ)). line_on page x ∷ ls) (lines_are xs)

  inputs_are : (xs : Inputs) → inputs_of page (map (noted_on page) xs) ≡ xs
  inputs_are [] = refl
  inputs_are (x ∷ xs) = inputs_here page (noted_on page x) (map (noted_on page) xs) (ap is_eq (tied_itself pages_total page)) ∙ ap (λ (ys : Inputs). x ∷ ys) (inputs_are xs)

pub book_pages : TalliesInAnyOrder → BookPagesAreTallied
book_pages any page total inputs some is notes =
    let sorted = in_order page inputs in
    let back = IsPermutation-sym inputs sorted (order_moves page inputs) in
    let rising = subst (IsStrictlySortedBy bytes_cmp) (sym (lines_are page sorted)) (order_rises page inputs notes is.rising) in
    (sorted, back, sorted_notes any page total (map (noted_on page) sorted) inputs some rising (subst (λ (xs : Inputs). IsPermutation xs inputs) (sym (inputs_are page sorted)) back) (omega (arith, is.few)))
