-- Lines without a fault are those of a book.
use Rattle.std.proofs.Common.{◌≡◌, ℕ, ◌+◌, ◌<◌, ◌≤◌, Bool, true, false, if◌then◌else◌, List, [], ◌∷◌, ◌++◌, length, append-nil, append_assoc, length-append, Option, Some, None, Ok, nat_lt, refl, sym, subst, arith}
use borrow.Author.Tests.{ltb-true, ltb-false}
use Rattle.std.specs.declared.cmp.Ordering.TheVariants.{Less}
use Rattle.std.specs.Option.{option_or}
use Rattle.std.specs.Cmp.Lexicographic.{nat_list_cmp_total}
use Rattle.std.specs.List.{AllByRecursion}
use Rattle.std.specs.List.Sorted.{IsStrictlySortedBy}
use Rattle.std.specs.Map.{keys_of}
use Rattle.std.specs.BTreeSet.{insert_key}
use Rattle.book_core.specs.Page.{PageName, bytes_cmp, page_cmp}
use Rattle.book_core.specs.PageOrder.{pages_total}
use Rattle.book_core.specs.Book.{Inputs, Contents, most_inputs, most_bytes, IsExposure, IsFilled, IsBook}
use Rattle.book_core.specs.Reading.{FileLine, begins, adds, neither, Standing, comes_after, is_above, input_fault, page_fault, first_fault, ends_page, leading, pages_in, unless, lines_book}
use Rattle.book_core.specs.declared.fault.BookFileFault.{BookFileFault}
use Rattle.book_core.specs.declared.fault.BookFileFault.TheVariants.{Line, Order, InputTooLong, PageFull}
use Rattle.book_core.proofs.Ordered.{All-insert, below_all, sorted-insert_key}
use Rattle.book_core.proofs.Noting.{exposure_none}
use Rattle.book_core.proofs.Taken.{insert_key-above, is_less}

neither_fault : (a b : Option BookFileFault) → option_or a b ≡ None → (a ≡ None) × (b ≡ None)
neither_fault None b e = (refl, e)
neither_fault (Some x) b e = cc

good_input : (long above room : Bool) (n : ℕ) → (if long then Some (InputTooLong n) else (if above then (if room then None else Some (PageFull n)) else Some (Order n))) ≡ None → (long ≡ false) × (above ≡ true) × (room ≡ true)
good_input true above room n e = cc
good_input false true true n e = (refl, refl, refl)
good_input false true false n e = cc
good_input false false room n e = cc

good_page : (ends above : Bool) (n : ℕ) → (if ends then Some (Line n) else (if above then None else Some (Order n))) ≡ None → (ends ≡ false) × (above ≡ true)
good_page true above n e = cc
good_page false true n e = (refl, refl)
good_page false false n e = cc

-- one more input, above the others
exposure_more : (xs : Inputs) (input : List ℕ) → IsExposure xs → length input ≤ most_bytes → is_above xs input ≡ true → length xs < most_inputs → IsExposure (xs ++ input ∷ [])
exposure_more xs input lawful short above room =
    let put : insert_key bytes_cmp xs input ≡ xs ++ input ∷ [] = insert_key-above nat_list_cmp_total xs input above in record {
      few = omega (arith, length-append xs (input ∷ []), room);
      short = subst (AllByRecursion (λ (x : List ℕ). length x ≤ most_bytes)) put (All-insert bytes_cmp (λ x. length x ≤ most_bytes) xs input lawful.short short);
      rising = subst (IsStrictlySortedBy bytes_cmp) put (sorted-insert_key nat_list_cmp_total xs input lawful.rising);
    }

-- the inputs up to the next page are lawful
leading_lawful : (ls : List FileLine) (n : ℕ) (page : PageName) (xs : Inputs) → first_fault n (Some (page, xs)) ls ≡ None → IsExposure xs → IsExposure (xs ++ leading ls)
leading_lawful [] n page xs good lawful = subst IsExposure (sym (append-nil xs)) lawful
leading_lawful (begins other ∷ ls) n page xs good lawful = subst IsExposure (sym (append-nil xs)) lawful
leading_lawful (neither ∷ ls) n page xs good lawful = cc
leading_lawful (adds input ∷ ls) n page xs good lawful =
    let parts = neither_fault (input_fault n xs input) (first_fault (n + 1) (Some (page, xs ++ input ∷ [])) ls) good in
    let tests = good_input (nat_lt most_bytes (length input)) (is_above xs input) (nat_lt (length xs) most_inputs) n parts.0 in
    let more = exposure_more xs input lawful (ltb-false _ _ tests.0) tests.1 (ltb-true _ _ tests.2) in
    subst IsExposure (append_assoc xs (input ∷ []) (leading ls)) (leading_lawful ls (n + 1) page (xs ++ input ∷ []) parts.1 more)

-- a page that does not end at once has inputs
some_leading : (ls : List FileLine) (n : ℕ) (last : PageName × Inputs) → ends_page ls ≡ false → first_fault n (Some last) ls ≡ None → 0 < length (leading ls)
some_leading [] n last goes good = cc
some_leading (begins page ∷ ls) n last goes good = cc
some_leading (neither ∷ ls) n last goes good = cc
some_leading (adds input ∷ ls) n last goes good = omega arith

-- each of these pages comes after the last one
abbrev FollowsAll : Standing → List PageName → Type 0
FollowsAll None pages = Unit {0}
FollowsAll (Some last) pages = AllByRecursion (λ (page : PageName). page_cmp last.0 page ≡ Less) pages

record ArePages (last : Standing) (book : Contents) : Type 0 where
  filled : AllByRecursion (λ (e : PageName × Inputs). IsFilled e.1) book
  rising : IsStrictlySortedBy page_cmp (keys_of book)
  follows : FollowsAll last (keys_of book)

follows_page : (last : Standing) (page : PageName) (pages : List PageName) → comes_after last page ≡ true → AllByRecursion (λ (other : PageName). page_cmp page other ≡ Less) pages → FollowsAll last (page ∷ pages)
follows_page None page pages above all = tt
follows_page (Some last) page pages above all =
    let below : page_cmp last.0 page ≡ Less = is_less (page_cmp last.0 page) above in
    (below, below_all pages_total last.0 page pages below all)

follows_none : (last : Standing) → FollowsAll last []
follows_none None = tt
follows_none (Some last) = tt

are_pages : (ls : List FileLine) (n : ℕ) (last : Standing) → first_fault n last ls ≡ None → ArePages last (pages_in ls)
unfolding IsStrictlySortedBy
are_pages [] n last good = record { filled = tt; rising = tt; follows = follows_none last }
are_pages (neither ∷ ls) n last good = cc
are_pages (begins page ∷ ls) n last good =
    let parts = neither_fault (page_fault n last page ls) (first_fault (n + 1) (Some (page, [])) ls) good in
    let tests = good_page (ends_page ls) (comes_after last page) n parts.0 in
    let later = are_pages ls (n + 1) (Some (page, [])) parts.1 in
    let here : IsFilled (leading ls) = record { some = some_leading ls (n + 1) (page, []) tests.0 parts.1; lawful = leading_lawful ls (n + 1) page [] parts.1 exposure_none } in record {
      filled = (here, later.filled);
      rising = (later.follows, later.rising);
      follows = follows_page last page (keys_of (pages_in ls)) tests.1 later.follows;
    }
are_pages (adds input ∷ ls) n None good = cc
are_pages (adds input ∷ ls) n (Some last) good =
    let parts = neither_fault (input_fault n last.1 input) (first_fault (n + 1) (Some (last.0, last.1 ++ input ∷ [])) ls) good in
    let later = are_pages ls (n + 1) (Some (last.0, last.1 ++ input ∷ [])) parts.1 in record {
      filled = later.filled;
      rising = later.rising;
      follows = later.follows;
    }

good_lines : (fault : Option BookFileFault) (book read : Contents) → unless fault book ≡ Ok read → (fault ≡ None) × (book ≡ read)
good_lines None book read e = (refl, cc)
good_lines (Some fault) book read e = cc

-- what is read is a book
pub lawful_lines : (ls : List FileLine) (book : Contents) → lines_book ls ≡ Ok book → IsBook book
unfolding lines_book
lawful_lines ls book e =
    let parts = good_lines (first_fault 2 None ls) (pages_in ls) book e in
    let pages = are_pages ls 2 None parts.0 in
    subst IsBook parts.1 (record { rising = pages.rising; filled = pages.filled })
