-- What is known of a file that was read.
use Rattle.std.proofs.Common.{◌≡◌, ◌<◌, ◌≤◌, ◌+◌, ◌==◌, ℕ, zero, suc, ⊎_elim, ◌≢◌, ◌&&◌, Bool, true, false, cond, if◌then◌else◌, length, map, unwrap_or, List, [], ◌∷◌, Result, Ok, Err, refl, sym, ap, ◌∙◌, arith}
use Rattle.std.specs.List.{list_all, range_with_len, slice_split}
use Rattle.std.proofs.lemmas.Bool.{eq-eqb, ne_eqb, cases_eq}
use Rattle.std.proofs.lemmas.List.Sums.{sum_by-cons}
use Rattle.std.specs.Prelude.{IfOk}
use Rattle.std.specs.BTreeMap.{is_at}
use Rattle.std.specs.Map.{lookup}
use Rattle.std.specs.declared.cmp.Ordering.{Ordering}
use Rattle.bucket_core.specs.Point.{point_of}
use Rattle.bucket_core.proofs.Hashes.{point_of-below}
use Rattle.flag_text.specs.Reading.{tree_of}
use Rattle.book_core.specs.Book.{Inputs, Contents, IsBook, inputs_on, most_inputs}
use Rattle.book_core.specs.Counts.{inputs_at, counts_of}
use Rattle.book_core.specs.Listing.{has_none}
use Rattle.book_core.specs.Page.{PageName, page_cmp, page_eq}
use Rattle.book_core.specs.PageOrder.{pages_total}
use Rattle.book_core.specs.Reading.{FileLine, book_of, parts_book, lines_book, lines_in, is_feed, is_header}
use Rattle.book_core.specs.declared.fault.BookFileFault.{BookFileFault}
use Rattle.book_core.specs.declared.fault.BookFileFault.TheVariants.{Header}
use Rattle.book_core.proofs.Lawful.{lawful_lines}
use Rattle.book_core.proofs.Noting.{exposure_found}
use Rattle.page_tally.specs.File.{IsFile, contents_in}
use Rattle.page_tally.specs.Tally.{if_book, page_counts, tally_of}
use Rattle.page_tally.proofs.Joined.{is_equal}

-- ---- what is read is a book

lawful_header : (header : Bool) (ls : List FileLine) (book : Contents) → (if header then lines_book ls else Err Header) ≡ Ok book → IsBook book
lawful_header true ls book e = lawful_lines ls book e
lawful_header false ls book e = cc

lawful_parts : (parts : List (List ℕ)) (book : Contents) → parts_book parts ≡ Ok book → IsBook book
lawful_parts [] book e = cc
lawful_parts (first ∷ []) book e = cc
lawful_parts (first ∷ part ∷ parts) book e = lawful_header (is_header (tree_of first (length first))) (lines_in (part ∷ parts)) book e

lawful_file : (bytes : List ℕ) (book : Contents) → book_of bytes ≡ Ok book → IsBook book
unfolding book_of
lawful_file bytes book e = lawful_parts (slice_split is_feed bytes) book e

few_on : (book : Contents) (page : PageName) → IsBook book → length (inputs_on book page) ≤ most_inputs
unfolding inputs_on
few_on book page is_book = (exposure_found (is_at (page_cmp page)) book is_book.filled).few

-- no page has more inputs than a page takes
pub few_in_file : (bytes : List ℕ) (page other : PageName) (total : ℕ) (counts : List ℕ) → IsFile bytes other total counts → length (inputs_on (contents_in (book_of bytes)) page) ≤ most_inputs
few_in_file bytes page other total counts is = few_on (contents_in (book_of bytes)) page (lawful_file bytes (contents_in (book_of bytes)) is.book)

-- equal pages have the same inputs
pub same_page : (book : Contents) (page other : PageName) → page_eq page other ≡ true → inputs_on book page ≡ inputs_on book other
unfolding inputs_on
same_page book page other same =
    let order : (k : PageName) → page_cmp page k ≡ page_cmp other k = λ k. pages_total.congr page other k (is_equal (page_cmp page other) same) in
    let orders : page_cmp page ≡ page_cmp other = λ i k. order k i in
    ap (λ (cmp : PageName → Ordering). unwrap_or (lookup (is_at cmp) book) []) orders

-- ---- a tally that is given, and one that is not

given_by : (bytes : List ℕ) (page : PageName) (total : ℕ) (counts : List ℕ) (r : Result Contents BookFileFault) → 0 < total → book_of bytes ≡ r → if_book (page_counts page total) r ≡ Ok counts → IsFile bytes page total counts
given_by bytes page total counts (Ok book) some is e =
    let same : page_counts page total book ≡ counts = cc in
    let inside : book ≡ contents_in (book_of bytes) = sym (ap contents_in is) in
    record { some = some; book = is ∙ ap Ok inside; tally = sym same ∙ ap (page_counts page total) inside }
given_by bytes page total counts (Err fault) some is e = cc

pub tally_given : (bytes : List ℕ) (page : PageName) (total : ℕ) (counts : List ℕ) → 0 < total → tally_of bytes page total ≡ Ok counts → IsFile bytes page total counts
unfolding tally_of
tally_given bytes page total counts some e = given_by bytes page total counts (book_of bytes) some refl e

refused_by : (page : PageName) (total : ℕ) (fault : BookFileFault) (r : Result Contents BookFileFault) → if_book (page_counts page total) r ≡ Err fault → r ≡ Err fault
refused_by page total fault (Ok book) e = cc
refused_by page total fault (Err other) e = let same : other ≡ fault = cc in ap Err same

pub tally_refused : (bytes : List ℕ) (page : PageName) (total : ℕ) (fault : BookFileFault) → tally_of bytes page total ≡ Err fault → book_of bytes ≡ Err fault
unfolding tally_of
tally_refused bytes page total fault e = refused_by page total fault (book_of bytes) e

-- a file that was read is refused by no other fault
pub never_refused : (bytes : List ℕ) (page other : PageName) (total n : ℕ) (counts : List ℕ) (fault : BookFileFault) → IsFile bytes other n counts → tally_of bytes page total ≡ Err fault → ⊥
never_refused bytes page other total n counts fault is e = differ (contents_in (book_of bytes)) (sym is.book ∙ tally_refused bytes page total fault e)
  where
    differ : (book : Contents) → (let r : Result Contents BookFileFault = Ok book in r) ≡ Err fault → ⊥
    differ book e = cc

-- ---- where all numbers are 0 there is no input

all_zero : (g : ℕ → ℕ) (a n : ℕ) → ((p : ℕ) → g p ≡ 0) → list_all (λ c. c == 0) (map g (range_with_len a n)) ≡ true
all_zero g a zero none = refl
all_zero g a (suc n) none = let here : (g a == 0) ≡ true = eq-eqb (g a) 0 (none a) in rw here (all_zero g (a + 1) n none)

past_first : (here rest : Bool) → rest ≡ false → (here && rest) ≡ false
past_first true rest e = e
past_first false rest e = refl

some_above : (g : ℕ → ℕ) (a n p : ℕ) → a ≤ p → p < a + n → 0 < g p → list_all (λ c. c == 0) (map g (range_with_len a n)) ≡ false
some_above g a zero p from to some = absurd (omega arith)
some_above g a (suc n) p from to some =
    ⊎_elim
    (λ (here : p ≡ a). let no : (g a == 0) ≡ false = ne_eqb (g a) 0 (λ e. absurd (omega (arith, e, some, ap g here))) in rw no refl)
    (λ (later : p ≢ a). past_first (g a == 0) (list_all (λ c. c == 0) (map g (range_with_len (a + 1) n))) (some_above g (a + 1) n p (omega arith) (omega arith) some))
    (cases_eq p a)

pub zero_none : (inputs : Inputs) (total : ℕ) → 0 < total → list_all (λ c. c == 0) (counts_of inputs total) ≡ has_none inputs
zero_none [] total some = all_zero (inputs_at [] total) 0 total (λ p. refl)
zero_none (x ∷ xs) total some =
    let p = point_of total x in
    let here : (point_of total x == p) ≡ true = eq-eqb p p refl in
    let counted = sum_by-cons (λ (input : List ℕ). cond (point_of total input == p) 1 0) x xs ∙ ap (λ b. cond b 1 0 + inputs_at xs total p) here in
    some_above (inputs_at (x ∷ xs) total) 0 total p (omega arith) (omega (arith, point_of-below total x some)) (omega (arith, counted))

-- what holds of each value holds of one that is given
pub if_given : {X E : Type 0} {P : X → Type 0} (r : Result X E) → ((x : X) → P x) → IfOk r P
if_given (Ok x) all = all x
if_given (Err e) all = tt
