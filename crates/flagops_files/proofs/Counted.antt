-- Inputs that are looked for in another book, page by page and line by line.
use Rattle.std.proofs.Common.{◌≡◌, ℕ, ◌+◌, ◌<◌, ◌≤◌, Bool, true, false, not, cond, List, [], ◌∷◌, length, Option, Some, None, Result, Ok, Err, IfOk, refl, sym, ap, ◌∙◌, subst, arith}
use Rattle.std.proofs.lemmas.List.Sums.{sum_by-cons}
use mir.Val.{bool_byte}
use Rattle.std.specs.List.{slice_split}
use Rattle.book_core.specs.Book.{Contents, Inputs, inputs_on, is_among}
use Rattle.book_core.specs.Page.{PageName}
use Rattle.book_core.specs.Reading.{FileLine, adds, begins, book_of, first_fault, is_feed, is_header, leading, line_of, lines_book, lines_of, neither, pages_in, unended_fault, unless}
use Rattle.book_core.specs.declared.fault.BookFileFault.{BookFileFault}
use Rattle.book_core.specs.declared.fault.BookFileFault.TheVariants.{Header}
use Rattle.book_core.proofs.Cut.{book_of-cut, book_of-unended, lines_of-cut}
use Rattle.flagops_files.specs.LostLines.{IsCounted, has_line}
use Rattle.flagops_files.specs.Losses.{lost_inputs, missing}
use Rattle.flag_text.specs.Reading.{tree_of}

-- ---- the pages of a file

lines_are : (fault : Option BookFileFault) (pages book : Contents) → unless fault pages ≡ Ok book → book ≡ pages
lines_are None pages book e = let same : pages ≡ book = cc in sym same
lines_are (Some fault) pages book e = cc

pages_if : (header : Bool) (ls : List FileLine) (book : Contents) → cond header (lines_book ls) (Err Header) ≡ Ok book → book ≡ pages_in ls
unfolding lines_book
pages_if true ls book e = lines_are (first_fault 2 None ls) (pages_in ls) book e
pages_if false ls book e = cc

-- the pages of a book are those of the lines behind the first one
book_pages : (bytes first rest : List ℕ) (book : Contents) → slice_split is_feed bytes ≡ first ∷ slice_split is_feed rest → book_of bytes ≡ Ok book → book ≡ pages_in (lines_of rest)
book_pages bytes first rest book split is =
    let header = is_header (tree_of first (length first)) in
    pages_if header (lines_of rest) book (sym (book_of-cut bytes first rest header split refl) ∙ is)

pub of_book : {E : Type 0} (bytes first rest : List ℕ) (old new : Contents) (r : Result ℕ E) → slice_split is_feed bytes ≡ first ∷ slice_split is_feed rest → book_of bytes ≡ Ok old
    → IfOk r (λ n. n ≡ lost_inputs (pages_in (lines_of rest)) new) → IfOk r (λ n. n ≡ lost_inputs old new)
of_book bytes first rest old new (Ok n) split is counted = counted ∙ ap (λ (es : Contents). lost_inputs es new) (sym (book_pages bytes first rest old split is))
of_book bytes first rest old new (Err e) split is counted = tt

-- one line without its end is no book
pub no_book : (bytes : List ℕ) (old new : Contents) → slice_split is_feed bytes ≡ bytes ∷ [] → book_of bytes ≡ Ok old → 0 ≡ lost_inputs old new
no_book bytes old new split is = absurd (differ (is_header (tree_of bytes (length bytes))) (sym (book_of-unended bytes (is_header (tree_of bytes (length bytes))) split refl) ∙ is))
  where
    differ : (header : Bool) → (let r : Result Contents BookFileFault = Err (unended_fault header) in r) ≡ Ok old → ⊥
    differ header e = cc

-- ---- lines

unended : (bytes : List ℕ) → slice_split is_feed bytes ≡ bytes ∷ [] → leading (lines_of bytes) ≡ []
unfolding lines_of
unended [] split = refl
unended (b ∷ bs) split = rw split refl

one_line : (new : Contents) (page : PageName) (l : FileLine) (kept : Bool) → Some kept ≡ has_line new page l → (input : List ℕ) × (l ≡ adds input) × (kept ≡ is_among input (inputs_on new page))
one_line new page (adds input) kept is = let same : kept ≡ is_among input (inputs_on new page) = cc in (input, refl, same)
one_line new page (begins other) kept is = cc
one_line new page neither kept is = cc

no_line : (new : Contents) (page : PageName) (l : FileLine) (after : List FileLine) → None ≡ has_line new page l → leading (l ∷ after) ≡ []
no_line new page (adds input) after is = cc
no_line new page (begins other) after is = refl
no_line new page neither after is = refl

module _ (new : Contents) (page : PageName) (bytes : List ℕ) where
  others : Inputs
  others = inputs_on new page

  -- those that are left are missing as all are, behind those that were counted
  pub record Looked (lost : ℕ) (rest : List ℕ) : Type 0 where
    pub counted : missing (leading (lines_of bytes)) (inputs_on new page) ≡ lost + missing (leading (lines_of rest)) (inputs_on new page)
    pub pages : pages_in (lines_of rest) ≡ pages_in (lines_of bytes)
    pub room : lost + length rest ≤ length bytes

  pub none_yet : Looked 0 bytes
  none_yet = record {
    counted = let n = missing (leading (lines_of bytes)) (inputs_on new page) in omega arith;
    pages = refl;
    room = omega arith;
  }

  module _ (lost : ℕ) (rest : List ℕ) (so_far : Looked lost rest) where
    module _ (line behind : List ℕ) (cut : slice_split is_feed rest ≡ line ∷ slice_split is_feed behind) (lengths : length line + length behind + 1 ≡ length rest) where
      here : lines_of rest ≡ line_of line ∷ lines_of behind
      here = lines_of-cut rest line behind cut

      step : (input : List ℕ) → line_of line ≡ adds input → missing (leading (lines_of rest)) (inputs_on new page) ≡ cond (not (is_among input (inputs_on new page))) 1 0 + missing (leading (lines_of behind)) (inputs_on new page)
      step input is =
          ap (λ (ls : List FileLine). missing (leading ls) (inputs_on new page)) (here ∙ ap (λ (l : FileLine). l ∷ lines_of behind) is)
          ∙ sum_by-cons (λ x. cond (not (is_among x (inputs_on new page))) 1 0) input (leading (lines_of behind))

      same_pages : (input : List ℕ) → line_of line ≡ adds input → pages_in (lines_of rest) ≡ pages_in (lines_of behind)
      same_pages input is = ap pages_in (here ∙ ap (λ (l : FileLine). l ∷ lines_of behind) is)

      pub one_lost : Some false ≡ has_line new page (line_of line) → Looked (lost + 1) behind
      one_lost is =
          let it = one_line new page (line_of line) false is in
          let more : missing (leading (lines_of rest)) (inputs_on new page) ≡ 1 + missing (leading (lines_of behind)) (inputs_on new page) = step it.0 it.1 ∙ ap (λ (b : Bool). cond (not b) 1 0 + missing (leading (lines_of behind)) (inputs_on new page)) (sym it.2) in
          record {
            counted = omega (arith, so_far.counted, more);
            pages = sym (same_pages it.0 it.1) ∙ so_far.pages;
            room = omega (arith, so_far.room, lengths);
          }

      pub one_kept : Some true ≡ has_line new page (line_of line) → Looked lost behind
      one_kept is =
          let it = one_line new page (line_of line) true is in
          let more : missing (leading (lines_of rest)) (inputs_on new page) ≡ 0 + missing (leading (lines_of behind)) (inputs_on new page) = step it.0 it.1 ∙ ap (λ (b : Bool). cond (not b) 1 0 + missing (leading (lines_of behind)) (inputs_on new page)) (sym it.2) in
          record {
            counted = omega (arith, so_far.counted, more);
            pages = sym (same_pages it.0 it.1) ∙ so_far.pages;
            room = omega (arith, so_far.room, lengths);
          }

      -- the input of a line, whether it is missing or not
      pub one_more : (kept : Bool) (n : ℕ) → Some kept ≡ has_line new page (line_of line) → n ≡ bool_byte (not kept) → Looked (lost + n) behind
      one_more true n is none = let same : lost + n ≡ lost = omega (arith, none) in subst (λ (k : ℕ). Looked k behind) (sym same) (one_kept is)
      one_more false n is one = subst (λ (k : ℕ). Looked (lost + k) behind) (sym one) (one_lost is)

      -- a line that is that of no input
      pub ends_page : None ≡ has_line new page (line_of line) → IsCounted new page bytes lost rest
      ends_page is = all_looked (ap leading here ∙ no_line new page (line_of line) (lines_of behind) is)
        where
          all_looked : leading (lines_of rest) ≡ [] → IsCounted new page bytes lost rest
          all_looked none =
              let left : missing (leading (lines_of rest)) (inputs_on new page) ≡ 0 = ap (λ (xs : Inputs). missing xs (inputs_on new page)) none in
              record { lost = omega (arith, so_far.counted, left); pages = so_far.pages; room = so_far.room }

    -- no line is left that ends
    pub ends_file : slice_split is_feed rest ≡ rest ∷ [] → IsCounted new page bytes lost rest
    ends_file cut =
        let left : missing (leading (lines_of rest)) (inputs_on new page) ≡ 0 = ap (λ (xs : Inputs). missing xs (inputs_on new page)) (unended rest cut) in
        record { lost = omega (arith, so_far.counted, left); pages = so_far.pages; room = so_far.room }

-- ---- pages

module _ (new : Contents) (lines : List ℕ) where
  -- what is lost of the pages that are left is lost of all, behind what was counted
  pub record GoesOn (lost : ℕ) (rest : List ℕ) : Type 0 where
    pub counted : lost_inputs (pages_in (lines_of lines)) new ≡ lost + lost_inputs (pages_in (lines_of rest)) new
    pub room : lost + length rest ≤ length lines

  pub goes_none : GoesOn 0 lines
  goes_none = record { counted = omega arith; room = omega arith }

  pub goes_over : (lost count : ℕ) (rest behind left : List ℕ) (page : PageName) → GoesOn lost rest → pages_in (lines_of rest) ≡ (page, leading (lines_of behind)) ∷ pages_in (lines_of behind) → length behind < length rest
      → IsCounted new page behind count left → GoesOn (lost + count) left
  goes_over lost count rest behind left page goes begin shorter is =
      let here : lost_inputs (pages_in (lines_of rest)) new ≡ missing (leading (lines_of behind)) (inputs_on new page) + lost_inputs (pages_in (lines_of behind)) new =
      ap (λ (es : Contents). lost_inputs es new) begin ∙ sum_by-cons (λ (e : PageName × Inputs). missing e.1 (inputs_on new e.0)) (page, leading (lines_of behind)) (pages_in (lines_of behind)) in
      let later : lost_inputs (pages_in (lines_of left)) new ≡ lost_inputs (pages_in (lines_of behind)) new = ap (λ (es : Contents). lost_inputs es new) is.pages in
      record {
        counted = omega (arith, goes.counted, here, later, is.lost);
        room = omega (arith, goes.room, shorter, is.room);
      }

  pub goes_all : (lost : ℕ) (rest : List ℕ) → GoesOn lost rest → pages_in (lines_of rest) ≡ [] → lost ≡ lost_inputs (pages_in (lines_of lines)) new
  goes_all lost rest goes none =
      let left : lost_inputs (pages_in (lines_of rest)) new ≡ 0 = ap (λ (es : Contents). lost_inputs es new) none in
      omega (arith, goes.counted, left)
