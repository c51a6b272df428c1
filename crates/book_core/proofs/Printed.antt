-- What is printed of a book reads as the book.
use Rattle.std.proofs.Common.{◌≡◌, ℕ, ◌+◌, ◌<◌, ◌≤◌, ◌^◌, true, false, if◌then◌else◌, List, [], ◌∷◌, ◌++◌, map, length, append-nil, append_assoc, length-append, Option, Some, None, Ok, nat_lt, flat_map, refl, sym, ap, ap₂, ◌∙◌, subst, arith}
use borrow.Author.Tests.{lt-ltb, le-ltb}
use Rattle.std.specs.declared.cmp.Ordering.TheVariants.{Less}
use Rattle.std.specs.Option.{option_or}
use Rattle.std.specs.Ordering.{is_lt}
use Rattle.std.specs.List.{slice_split, AllByRecursion}
use Rattle.std.specs.List.Sorted.{IsStrictlySortedBy}
use Rattle.std.specs.Map.{keys_of}
use Rattle.std.proofs.lemmas.Bool.{and_from}
use Rattle.std.proofs.lemmas.List.Elements.{All-from_recursion}
use Rattle.std.proofs.lemmas.List.Splits.{slice_split_at}
use Rattle.flag_text.specs.Shape.{Shape, text}
use Rattle.flag_text.specs.Printing.{text_of}
use Rattle.book_core.specs.Page.{PageName, bytes_cmp, page_cmp}
use Rattle.book_core.specs.Book.{Inputs, Contents, most_inputs, most_bytes, IsExposure, IsFilled, IsBook}
use Rattle.book_core.specs.Printing.{Reads, ReadsPage, line_text, header_shape, by_shape, page_shape, inputs_text, page_text, book_text}
use Rattle.book_core.specs.Reading.{FileLine, begins, adds, Standing, is_feed, is_header, by_of, page_of, shape_line, read_line, line_of, lines_of, comes_after, is_above, input_fault, first_fault, ends_page, leading, pages_in, unless, lines_book, book_of}
use Rattle.book_core.specs.declared.fault.BookFileFault.TheVariants.{Line, Order}
use Rattle.book_core.proofs.Cut.{book_of-cut, lines_of-cut, lines_of-none}
use Rattle.book_core.proofs.Fed.{NoFeed, no_feed-header, no_feed-input, no_feed-page}

-- ---- the lines of a book

abbrev page_lines : PageName × Inputs → List FileLine → List FileLine
page_lines e after = begins e.0 ∷ (map adds e.1 ++ after)

abbrev book_lines : Contents → List FileLine
book_lines [] = []
book_lines (e ∷ es) = page_lines e (book_lines es)

leading-adds : (xs : Inputs) (ls : List FileLine) → leading (map adds xs ++ ls) ≡ xs ++ leading ls
leading-adds [] ls = refl
leading-adds (x ∷ xs) ls = ap (λ ys. x ∷ ys) (leading-adds xs ls)

pages_in-adds : (xs : Inputs) (ls : List FileLine) → pages_in (map adds xs ++ ls) ≡ pages_in ls
pages_in-adds [] ls = refl
pages_in-adds (x ∷ xs) ls = pages_in-adds xs ls

leading-book : (book : Contents) → leading (book_lines book) ≡ []
leading-book [] = refl
leading-book (e ∷ es) = refl

pages_in-book : (book : Contents) → pages_in (book_lines book) ≡ book
pages_in-book [] = refl
pages_in-book (e ∷ es) =
    let inputs : leading (map adds e.1 ++ book_lines es) ≡ e.1 = leading-adds e.1 (book_lines es) ∙ ap (λ ys. e.1 ++ ys) (leading-book es) ∙ append-nil e.1 in
    let rest : pages_in (map adds e.1 ++ book_lines es) ≡ es = pages_in-adds e.1 (book_lines es) ∙ pages_in-book es in
    ap₂ (λ (xs : Inputs) (b : Contents). (e.0, xs) ∷ b) inputs rest

-- ---- they have no fault

at_middle : (P : List ℕ → Type 0) (ds : Inputs) (x : List ℕ) (xs : Inputs) → AllByRecursion P (ds ++ x ∷ xs) → P x
at_middle P [] x xs all = all.0
at_middle P (d ∷ ds) x xs all = at_middle P ds x xs all.1

above_before : (done : Inputs) (x : List ℕ) (xs : Inputs) → IsStrictlySortedBy bytes_cmp (done ++ x ∷ xs) → is_above done x ≡ true
unfolding IsStrictlySortedBy
above_before [] x xs rising = refl
above_before (d ∷ ds) x xs rising = and_from _ _ (ap is_lt (at_middle (λ y. bytes_cmp d y ≡ Less) ds x xs rising.0)) (above_before ds x xs rising.1)

good_input : (n : ℕ) (done : Inputs) (x : List ℕ) (xs : Inputs) → IsExposure (done ++ x ∷ xs) → input_fault n done x ≡ None
good_input n done x xs lawful =
    let short : length x ≤ most_bytes = at_middle (λ y. length y ≤ most_bytes) done x xs lawful.short in
    let room : length done < most_inputs = omega (arith, length-append done (x ∷ xs), lawful.few) in
    rw (le-ltb _ _ short, above_before done x xs lawful.rising, lt-ltb _ _ room) refl

good_inputs : (xs done : Inputs) (n : ℕ) (page : PageName) (ls : List FileLine) → IsExposure (done ++ xs) → ((m : ℕ) (ys : Inputs) → first_fault m (Some (page, ys)) ls ≡ None) → first_fault n (Some (page, done)) (map adds xs ++ ls) ≡ None
good_inputs [] done n page ls lawful later = later n done
good_inputs (x ∷ xs) done n page ls lawful later =
    let here = good_input n done x xs lawful in
    let next : IsExposure ((done ++ x ∷ []) ++ xs) = subst IsExposure (sym (append_assoc done (x ∷ []) xs)) lawful in
    ap (λ f. option_or f (first_fault (n + 1) (Some (page, done ++ x ∷ [])) (map adds xs ++ ls))) here ∙ good_inputs xs (done ++ x ∷ []) (n + 1) page ls next later

goes_on : (xs : Inputs) (ls : List FileLine) → 0 < length xs → ends_page (map adds xs ++ ls) ≡ false
goes_on [] ls some = absurd (omega arith)
goes_on (x ∷ xs) ls some = refl

-- the first page comes after the last one
abbrev Follows : Standing → Contents → Type 0
Follows last [] = Unit {0}
Follows last (e ∷ es) = comes_after last e.0 ≡ true

follows_rest : (e : PageName × Inputs) (ys : Inputs) (es : Contents) → AllByRecursion (λ (page : PageName). page_cmp e.0 page ≡ Less) (keys_of es) → Follows (Some (e.0, ys)) es
follows_rest e ys [] above = tt
follows_rest e ys (f ∷ es) above = ap is_lt above.0

good_book : (book : Contents) (n : ℕ) (last : Standing) → Follows last book → IsStrictlySortedBy page_cmp (keys_of book) → AllByRecursion (λ (e : PageName × Inputs). IsFilled e.1) book → first_fault n last (book_lines book) ≡ None
unfolding IsStrictlySortedBy
good_book [] n last follows rising filled = refl
good_book (e ∷ es) n last follows rising filled =
    let ls = map adds e.1 ++ book_lines es in
    let later : (m : ℕ) (ys : Inputs) → first_fault m (Some (e.0, ys)) (book_lines es) ≡ None = λ m ys. good_book es m (Some (e.0, ys)) (follows_rest e ys es rising.0) rising.1 filled.1 in
    let inputs = good_inputs e.1 [] (n + 1) e.0 (book_lines es) filled.0.lawful later in
    ap₂ (λ b d. option_or (if b then Some (Line n) else (if d then None else Some (Order n))) (first_fault (n + 1) (Some (e.0, [])) ls)) (goes_on e.1 (book_lines es) filled.0.some) follows ∙ inputs

follows_none : (book : Contents) → Follows None book
follows_none [] = tt
follows_none (e ∷ es) = refl

lines_book-lines : (book : Contents) → IsBook book → lines_book (book_lines book) ≡ Ok book
unfolding lines_book
lines_book-lines book is_book = ap₂ unless (good_book book 2 None (follows_none book) is_book.rising is_book.filled) (pages_in-book book)

-- ---- the bytes have these lines

split_line : (line rest : List ℕ) → NoFeed line → slice_split is_feed (line ++ 10 ∷ rest) ≡ line ∷ slice_split is_feed rest
split_line line rest no_feed = slice_split_at is_feed line 10 rest (All-from_recursion (λ (b : ℕ). is_feed b ≡ false) line no_feed) refl

line_spelled : (t : Shape) (l : FileLine) (rest : List ℕ) → Reads t → NoFeed (text_of t) → shape_line t ≡ l → lines_of (line_text t ++ rest) ≡ l ∷ lines_of rest
unfolding line_of
line_spelled t l rest reads no_feed seen =
    ap lines_of (append_assoc (text_of t) (10 ∷ []) rest)
    ∙ lines_of-cut (text_of t ++ 10 ∷ rest) (text_of t) rest (split_line (text_of t) rest no_feed)
    ∙ ap (λ x. x ∷ lines_of rest) (ap read_line reads ∙ seen)

inputs_spelled : (xs : Inputs) (rest : List ℕ) → AllByRecursion (λ (input : List ℕ). Reads (text input)) xs → lines_of (inputs_text xs ++ rest) ≡ map adds xs ++ lines_of rest
inputs_spelled [] rest reads = refl
inputs_spelled (x ∷ xs) rest reads =
    ap lines_of (append_assoc (line_text (text x)) (inputs_text xs) rest) ∙ line_spelled (text x) (adds x) (inputs_text xs ++ rest) reads.0 (no_feed-input x) refl ∙ ap (λ ls. adds x ∷ ls) (inputs_spelled xs rest reads.1)

by_seen : (by : Option (List ℕ)) → by_of (by_shape by) ≡ Some by
by_seen None = refl
by_seen (Some s) = refl

page_seen : (page : PageName) → page.site < 2 ^ 32 → shape_line (page_shape page) ≡ begins page
unfolding page_of
page_seen page small =
    let site : nat_lt page.site (2 ^ 32) ≡ true = lt-ltb _ _ small in
    rw (site, by_seen page.by) refl

page_spelled : (e : PageName × Inputs) (rest : List ℕ) → ReadsPage e → lines_of (page_text e ++ rest) ≡ page_lines e (lines_of rest)
page_spelled e rest reads =
    ap lines_of (append_assoc (line_text (page_shape e.0)) (inputs_text e.1) rest)
    ∙ line_spelled (page_shape e.0) (begins e.0) (inputs_text e.1 ++ rest) reads.page (no_feed-page e.0 reads.site) (page_seen e.0 reads.site)
    ∙ ap (λ ls. begins e.0 ∷ ls) (inputs_spelled e.1 rest reads.inputs)

pages_spelled : (book : Contents) → AllByRecursion ReadsPage book → lines_of (flat_map page_text book) ≡ book_lines book
pages_spelled [] reads = lines_of-none
pages_spelled (e ∷ es) reads = page_spelled e (flat_map page_text es) reads.0 ∙ ap (page_lines e) (pages_spelled es reads.1)

header_seen : is_header (Ok header_shape) ≡ true
header_seen = refl

-- what is printed of a book reads as the book
pub book_of-text : (book : Contents) → IsBook book → Reads header_shape → AllByRecursion ReadsPage book → book_of (book_text book) ≡ Ok book
unfolding book_text
book_of-text book is_book header reads =
    let body = flat_map page_text book in
    let first = text_of header_shape in
    let split : slice_split is_feed (line_text header_shape ++ body) ≡ first ∷ slice_split is_feed body = ap (slice_split is_feed) (append_assoc first (10 ∷ []) body) ∙ split_line first body no_feed-header in
    book_of-cut (line_text header_shape ++ body) first body true split (ap is_header header ∙ header_seen) ∙ ap lines_book (pages_spelled book reads) ∙ lines_book-lines book is_book
