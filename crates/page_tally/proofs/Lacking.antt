-- Stretches of plain inputs that follow on one another, and the inputs of a page that are none of its flag.
use Rattle.std.proofs.Common.{◌≡◌, ◌≤◌, ◌+◌, ◌++◌, ◌||◌, ◌&&◌, ℕ, Bool, true, false, List, [], ◌∷◌, length, drop, Option, Some, None, if◌then◌else◌, Result, Ok, Err, unwrap_or, refl, sym, ap, ◌∙◌, arith, length-drop}
use Rattle.std.proofs.lemmas.List.Folds.{list_any-append}
use Rattle.std.specs.List.{list_any, slice_split}
use Rattle.std.specs.BTreeMap.{is_at}
use Rattle.std.specs.Map.{lookup}
use Rattle.std.specs.Prelude.{IfOk, is_none}
use Rattle.book_core.specs.Book.{Inputs, Contents, inputs_on}
use Rattle.book_core.specs.Page.{PageName, page_cmp, page_eq}
use Rattle.book_core.specs.Reading.{FileLine, adds, book_of, first_fault, is_feed, is_header, leading, lines_book, lines_of, pages_in, unended_fault, unless}
use Rattle.book_core.specs.declared.fault.BookFileFault.{BookFileFault}
use Rattle.book_core.specs.declared.fault.BookFileFault.TheVariants.{Header}
use Rattle.book_core.proofs.Cut.{book_of-cut, book_of-unended}
use Rattle.flag_text.specs.Reading.{tree_of}
use Rattle.page_tally.specs.Foreign.{has_foreign, lacks}
use Rattle.page_tally.specs.Parts.{IsEndOf}
use Rattle.page_tally.specs.Runs.{with_lines}
use Rattle.page_tally.specs.Stretch.{IsStretch, IsStretchOf}
use Rattle.page_tally.specs.declared.stretch.Stretch.{Stretch}
use Rattle.page_tally.proofs.Parted.{same_end, end_of_end, lines-append}

-- ---- stretches

or_false : (b : Bool) → (b || false) ≡ b
or_false true = refl
or_false false = refl

any_one : (key : List ℕ) (xs : Inputs) (x : List ℕ) → list_any (lacks key) xs ≡ false → list_any (lacks key) (xs ++ x ∷ []) ≡ lacks key x
any_one key xs x none = list_any-append (lacks key) xs (x ∷ []) ∙ ap (λ b. b || list_any (lacks key) (x ∷ [])) none ∙ or_false (lacks key x)

-- a line more
pub stretch_more : (bytes key : List ℕ) (xs : Inputs) (x : List ℕ) (old new : Stretch) → IsStretch bytes key xs old → old.lacks ≡ false → lines_of old.rest.now ≡ adds x ∷ lines_of new.rest.now
    → new.rest.now ≡ drop (length x + 3) old.rest.now → new.lacks ≡ lacks key x → IsStretch bytes key (xs ++ x ∷ []) new
stretch_more bytes key xs x old new had none line behind found =
    let more : IsEndOf bytes new.rest.now = end_of_end bytes old.rest.now new.rest.now had.end (length x + 3, behind) in
    record {
      lines = had.lines ∙ ap (with_lines xs) line ∙ sym (lines-append xs (x ∷ []) (lines_of new.rest.now));
      lacks = found ∙ sym (any_one key xs x (sym had.lacks ∙ none));
      end = more;
    }

-- a stretch more
pub stretch_joined : (bytes behind key : List ℕ) (xs ys : Inputs) (one two : Stretch) → IsStretch bytes key xs one → IsEndOf bytes behind → IsStretch behind key ys two → one.lacks ≡ false → length one.rest.now ≡ length behind → IsStretch bytes key (xs ++ ys) two
stretch_joined bytes behind key xs ys one two had end next none met =
    let sizes : length (drop had.end.0 bytes) ≡ length (drop end.0 bytes) = ap length (sym had.end.1) ∙ met ∙ ap length end.1 in
    let same : one.rest.now ≡ behind = had.end.1 ∙ same_end bytes had.end.0 end.0 sizes ∙ sym end.1 in
    record {
      lines = had.lines ∙ ap (λ b. with_lines xs (lines_of b)) same ∙ ap (with_lines xs) next.lines ∙ sym (lines-append xs ys (lines_of two.rest.now));
      lacks = next.lacks ∙ sym (list_any-append (lacks key) xs ys ∙ ap (λ b. b || list_any (lacks key) ys) (sym had.lacks ∙ none));
      end = end_of_end bytes behind two.rest.now end next.end;
    }

-- no line yet
pub no_stretch : (bytes key : List ℕ) (s : Stretch) → s.lacks ≡ false → s.rest.now ≡ bytes → IsStretchOf bytes key s
no_stretch bytes key s none all = ([], record { lines = ap lines_of (sym all); lacks = none; end = (0, all) })

-- what was read from the bytes behind a stretch
pub stretch_then : (bytes key : List ℕ) (one two : Stretch) → IsStretchOf bytes key one → one.lacks ≡ false → IsStretchOf one.rest.now key two → IsStretchOf bytes key two
stretch_then bytes key one two had none next = (had.0 ++ next.0, stretch_joined bytes one.rest.now key had.0 next.0 one two had.1 had.1.end next.1 none refl)

-- what is left is no more than what was there
pub left_of : (bytes key : List ℕ) (s : Stretch) → IsStretchOf bytes key s → length s.rest.now ≤ length bytes
left_of bytes key s it = omega (arith, ap length it.1.end.1, length-drop it.1.end.0 bytes)

-- ---- what stands behind a stretch

pages-with_lines : (xs : Inputs) (ls : List FileLine) → pages_in (with_lines xs ls) ≡ pages_in ls
pages-with_lines [] ls = refl
pages-with_lines (x ∷ xs) ls = pages-with_lines xs ls

leading-with_lines : (xs : Inputs) (ls : List FileLine) → leading (with_lines xs ls) ≡ xs ++ leading ls
leading-with_lines [] ls = refl
leading-with_lines (x ∷ xs) ls = ap (λ l. x ∷ l) (leading-with_lines xs ls)

pub pages_behind : (bytes key : List ℕ) (s : Stretch) → IsStretchOf bytes key s → pages_in (lines_of bytes) ≡ pages_in (lines_of s.rest.now)
pages_behind bytes key s it = ap pages_in it.1.lines ∙ pages-with_lines it.0 (lines_of s.rest.now)

-- one of the inputs that stand first among the bytes does not begin with the key
abbrev pub any_lack : List ℕ → List ℕ → Bool
any_lack key bytes = list_any (lacks key) (leading (lines_of bytes))

pub lacks_behind : (bytes key : List ℕ) (s : Stretch) → IsStretchOf bytes key s → any_lack key bytes ≡ (s.lacks || any_lack key s.rest.now)
lacks_behind bytes key s it =
    let rest = leading (lines_of s.rest.now) in
    ap (λ ls. list_any (lacks key) (leading ls)) it.1.lines
    ∙ ap (list_any (lacks key)) (leading-with_lines it.0 (lines_of s.rest.now))
    ∙ list_any-append (lacks key) it.0 rest
    ∙ ap (λ b. b || list_any (lacks key) rest) (sym it.1.lacks)

-- what is known of all the bytes where those before a stretch were looked through
module _ (bytes rest key : List ℕ) (s : Stretch) (had : any_lack key bytes ≡ any_lack key rest) (it : IsStretchOf rest key s) where
  pub lack_here : s.lacks ≡ true → true ≡ any_lack key bytes
  lack_here here = sym (had ∙ lacks_behind rest key s it ∙ ap (λ b. b || any_lack key s.rest.now) here)

  module _ (none : s.lacks ≡ false) where
    later : any_lack key bytes ≡ any_lack key s.rest.now
    later = had ∙ lacks_behind rest key s it ∙ ap (λ b. b || any_lack key s.rest.now) none

    pub lack_ended : lines_of s.rest.now ≡ [] → false ≡ any_lack key bytes
    lack_ended ends = sym (later ∙ ap (λ ls. list_any (lacks key) (leading ls)) ends)

    module _ (line : FileLine) (behind : List ℕ) (lines : lines_of s.rest.now ≡ line ∷ lines_of behind) where
      pub lack_other : ((after : List FileLine) → leading (line ∷ after) ≡ []) → false ≡ any_lack key bytes
      lack_other ends = sym (later ∙ ap (λ ls. list_any (lacks key) (leading ls)) lines ∙ ap (list_any (lacks key)) (ends (lines_of behind)))

      module _ (lack : Bool) (is : (after : List FileLine) → list_any (lacks key) (leading (line ∷ after)) ≡ (lack || list_any (lacks key) (leading after))) where
        first : any_lack key bytes ≡ (lack || any_lack key behind)
        first = later ∙ ap (λ ls. list_any (lacks key) (leading ls)) lines ∙ is (lines_of behind)

        pub lack_input : lack ≡ true → true ≡ any_lack key bytes
        lack_input here = sym (first ∙ ap (λ b. b || any_lack key behind) here)

        pub lack_more : lack ≡ false → any_lack key bytes ≡ any_lack key behind
        lack_more own = first ∙ ap (λ b. b || any_lack key behind) own

-- ---- pages

foreign_if : (none : Bool) (key : List ℕ) (xs : Inputs) → list_any (λ x. none && lacks key x) xs ≡ (none && list_any (lacks key) xs)
foreign_if true key xs = refl
foreign_if false key [] = refl
foreign_if false key (x ∷ xs) = foreign_if false key xs

-- on a page with a bucketing expression no input is foreign, and on another those that lack the key
pub foreign_by : (page : PageName) (xs : Inputs) → has_foreign page xs ≡ (is_none page.by && list_any (lacks page.flag) xs)
foreign_by page xs = foreign_if (is_none page.by) page.flag xs

first_or : (b : Bool) (xs : Inputs) (o : Option Inputs) → unwrap_or (if b then Some xs else o) [] ≡ (if b then xs else unwrap_or o [])
first_or true xs o = refl
first_or false xs o = refl

-- the inputs on a page are those behind the first line with it
pub page_first : (q page : PageName) (xs : Inputs) (book : Contents) → inputs_on ((q, xs) ∷ book) page ≡ (if page_eq page q then xs else inputs_on book page)
unfolding inputs_on
page_first q page xs book = first_or (page_eq page q) xs (lookup (is_at (page_cmp page)) book)

lines_are : (fault : Option BookFileFault) (pages book : Contents) → unless fault pages ≡ Ok book → book ≡ pages
lines_are None pages book e = let same : pages ≡ book = cc in sym same
lines_are (Some fault) pages book e = cc

pages_if : (header : Bool) (ls : List FileLine) (book : Contents) → (if header then lines_book ls else Err Header) ≡ Ok book → book ≡ pages_in ls
unfolding lines_book
pages_if true ls book e = lines_are (first_fault 2 None ls) (pages_in ls) book e
pages_if false ls book e = cc

-- the pages of a book are those of the lines behind the first one
pub pages_are : (bytes first rest : List ℕ) (book : Contents) → slice_split is_feed bytes ≡ first ∷ slice_split is_feed rest → book_of bytes ≡ Ok book → book ≡ pages_in (lines_of rest)
pages_are bytes first rest book split is =
    let header = is_header (tree_of first (length first)) in
    pages_if header (lines_of rest) book (sym (book_of-cut bytes first rest header split refl) ∙ is)

-- one line without its end is no book
pub no_pages : (bytes : List ℕ) (book : Contents) → slice_split is_feed bytes ≡ bytes ∷ [] → book_of bytes ≡ Ok book → ⊥
no_pages bytes book split is = differ (is_header (tree_of bytes (length bytes))) (sym (book_of-unended bytes (is_header (tree_of bytes (length bytes))) split refl) ∙ is)
  where
    differ : (header : Bool) → (let r : Result Contents BookFileFault = Err (unended_fault header) in r) ≡ Ok book → ⊥
    differ header e = cc

-- ---- from the lines of a file to the inputs of a page

-- the pages that stand behind some of the lines
module _ (bytes rest plain : List ℕ) (page : PageName) (had : inputs_on (pages_in (lines_of bytes)) page ≡ inputs_on (pages_in (lines_of rest)) page) (passed : pages_in (lines_of rest) ≡ pages_in (lines_of plain)) where
  all_behind : inputs_on (pages_in (lines_of bytes)) page ≡ inputs_on (pages_in (lines_of plain)) page
  all_behind = had ∙ ap (λ b. inputs_on b page) passed

  pub page_nowhere : lines_of plain ≡ [] → inputs_on (pages_in (lines_of bytes)) page ≡ []
  unfolding inputs_on
  page_nowhere ends = all_behind ∙ ap (λ ls. inputs_on (pages_in ls) page) ends

  module _ (line : FileLine) (behind : List ℕ) (begun : Bool) (lines : lines_of plain ≡ line ∷ lines_of behind)
      (is : (after : List FileLine) → inputs_on (pages_in (line ∷ after)) page ≡ (if begun then leading after else inputs_on (pages_in after) page)) where
    either : inputs_on (pages_in (lines_of bytes)) page ≡ (if begun then leading (lines_of behind) else inputs_on (pages_in (lines_of behind)) page)
    either = all_behind ∙ ap (λ ls. inputs_on (pages_in ls) page) lines ∙ is (lines_of behind)

    pub page_here : begun ≡ true → inputs_on (pages_in (lines_of bytes)) page ≡ leading (lines_of behind)
    page_here here = either ∙ ap (λ b. if b then leading (lines_of behind) else inputs_on (pages_in (lines_of behind)) page) here

    pub page_later : begun ≡ false → inputs_on (pages_in (lines_of bytes)) page ≡ inputs_on (pages_in (lines_of behind)) page
    page_later other = either ∙ ap (λ b. if b then leading (lines_of behind) else inputs_on (pages_in (lines_of behind)) page) other

-- no input is on a page of what is no book
pub lack_unended : (bytes : List ℕ) (page : PageName) → slice_split is_feed bytes ≡ bytes ∷ [] → (book : Contents) → book_of bytes ≡ Ok book → false ≡ list_any (lacks page.flag) (inputs_on book page)
lack_unended bytes page split book is = absurd (no_pages bytes book split is)

module _ (bytes first rest : List ℕ) (page : PageName) (split : slice_split is_feed bytes ≡ first ∷ slice_split is_feed rest) where
  pub lack_nowhere : inputs_on (pages_in (lines_of rest)) page ≡ [] → (book : Contents) → book_of bytes ≡ Ok book → false ≡ list_any (lacks page.flag) (inputs_on book page)
  lack_nowhere none book is = sym (ap (λ b. list_any (lacks page.flag) (inputs_on b page)) (pages_are bytes first rest book split is) ∙ ap (list_any (lacks page.flag)) none)

  pub lack_there : {E : Type 0} (behind key : List ℕ) (r : Result Bool E) → inputs_on (pages_in (lines_of rest)) page ≡ leading (lines_of behind) → key ≡ page.flag → IfOk r (λ lack. lack ≡ any_lack key behind)
      → IfOk r (λ lack. (book : Contents) → book_of bytes ≡ Ok book → lack ≡ list_any (lacks page.flag) (inputs_on book page))
  lack_there behind key (Ok lack) there own is = λ book of.
      is ∙ ap (λ k. any_lack k behind) own ∙ sym (ap (λ b. list_any (lacks page.flag) (inputs_on b page)) (pages_are bytes first rest book split of) ∙ ap (list_any (lacks page.flag)) there)
  lack_there behind key (Err e) there own is = tt
