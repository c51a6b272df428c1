-- Pages that are compared one by one.
use Rattle.std.proofs.Common.{◌≡◌, ℕ, ◌+◌, ◌<◌, ◌≤◌, Bool, true, false, cond, List, [], ◌∷◌, ◌++◌, length, Option, Some, None, Result, Ok, Err, IfOk, append-nil, append_assoc, refl, sym, ap, ◌∙◌, subst, arith}
use Rattle.std.specs.List.{slice_split}
use Rattle.book_core.specs.Book.{Contents, Inputs}
use Rattle.book_core.specs.Page.{PageName}
use Rattle.book_core.specs.Reading.{FileLine, book_of, first_fault, is_feed, is_header, lines_book, lines_of, pages_in, unended_fault, unless}
use Rattle.book_core.specs.declared.fault.BookFileFault.{BookFileFault}
use Rattle.book_core.specs.declared.fault.BookFileFault.TheVariants.{Header}
use Rattle.book_core.proofs.Cut.{book_of-cut, book_of-unended}
use Rattle.flag_defs.specs.Document.{Definitions}
use Rattle.flag_text.specs.Reading.{tree_of}
use Rattle.rule_switches.specs.Found.{AreFound, AreSums, Compares, Found, IsFound, PageFound, asked, inputs_in, is_asked, is_left, pages_view, switches_in}
use Rattle.rule_switches.specs.Rules.{rules_on}
use Rattle.rule_switches.specs.declared.comparison.Comparison.{Comparison}

-- ---- the pages of a file

lines_are : (fault : Option BookFileFault) (pages book : Contents) → unless fault pages ≡ Ok book → book ≡ pages
lines_are None pages book e = let same : pages ≡ book = cc in sym same
lines_are (Some fault) pages book e = cc

pages_if : (header : Bool) (ls : List FileLine) (book : Contents) → cond header (lines_book ls) (Err Header) ≡ Ok book → book ≡ pages_in ls
unfolding lines_book
pages_if true ls book e = lines_are (first_fault 2 None ls) (pages_in ls) book e
pages_if false ls book e = cc

-- the pages of a book are those of the lines behind the first one
book_pages : (bytes first rest : List ℕ) (book : Contents) → slice_split is_feed bytes ≡ first ∷ slice_split is_feed rest → book_of bytes ≡ Ok book → book ≡ pages_in (lines_of rest)
book_pages bytes first rest book split is =
    let header = is_header (tree_of first (length first)) in
    pages_if header (lines_of rest) book (sym (book_of-cut bytes first rest header split refl) ∙ is)

-- one line without its end is no book
no_book : (bytes : List ℕ) (book : Contents) → slice_split is_feed bytes ≡ bytes ∷ [] → book_of bytes ≡ Ok book → ⊥
no_book bytes book split is = differ (is_header (tree_of bytes (length bytes))) (sym (book_of-unended bytes (is_header (tree_of bytes (length bytes))) split refl) ∙ is)
  where
    differ : (header : Bool) → (let r : Result Contents BookFileFault = Err (unended_fault header) in r) ≡ Ok book → ⊥
    differ header e = cc

-- what is found of the lines behind the first one is found of the book
pub book_compared : {E : Type 0} (old new : Definitions) (only : Option (List ℕ)) (bytes first rest : List ℕ) (book : Contents) (r : Result Comparison E) → slice_split is_feed bytes ≡ first ∷ slice_split is_feed rest → book_of bytes ≡ Ok book
    → IfOk r (λ c. Compares old new (asked only (pages_in (lines_of rest))) c) → IfOk r (λ c. Compares old new (asked only book) c)
book_compared old new only bytes first rest book (Ok c) split is compares = subst (λ (es : Contents). Compares old new (asked only es) c) (sym (book_pages bytes first rest book split is)) compares
book_compared old new only bytes first rest book (Err e) split is compares = tt

pub unended_compared : (old new : Definitions) (only : Option (List ℕ)) (bytes : List ℕ) (book : Contents) (c : Comparison) → slice_split is_feed bytes ≡ bytes ∷ [] → book_of bytes ≡ Ok book → Compares old new (asked only book) c
unended_compared old new only bytes book c split is = absurd (no_book bytes book split is)

-- ---- one by one

module _ (old new : Definitions) (only : Option (List ℕ)) (bytes : List ℕ) where
  -- what is found of the pages that are left, behind what was found, is found of all
  pub record GoesOn (rest : List ℕ) (c : Comparison) : Type 0 where
    pub found : (more : List PageFound) → AreFound old new (asked only (pages_in (lines_of rest))) more → AreFound old new (asked only (pages_in (lines_of bytes))) (pages_view c.pages.items ++ more)
    pub sums : AreSums c
    pub few : c.switched ≤ c.inputs
    pub room : c.inputs + c.left + length rest ≤ length bytes

  -- no page yet
  pub goes_none : (c : Comparison) → pages_view c.pages.items ≡ [] → AreSums c → (c.inputs ≡ 0) × (c.switched ≡ 0) × (c.left ≡ 0) → GoesOn bytes c
  goes_none c none sums zeros = record {
    found = λ more are. subst (λ (ps : List PageFound). AreFound old new (asked only (pages_in (lines_of bytes))) (ps ++ more)) (sym none) are;
    sums = sums;
    few = omega (arith, zeros.0, zeros.1);
    room = omega (arith, zeros.0, zeros.2);
  }

  one_asked : (b : Bool) (e : PageName × Inputs) (es : Contents) → b ≡ true → cond b (e ∷ es) es ≡ e ∷ es
  one_asked true e es is = refl
  one_asked false e es is = cc

  one_past : (b : Bool) (e : PageName × Inputs) (es : Contents) → b ≡ false → cond b (e ∷ es) es ≡ es
  one_past true e es is = cc
  one_past false e es is = refl

  most_one : (b : Bool) → cond b 1 0 ≤ 1
  most_one true = omega arith
  most_one false = omega arith

  module _ (rest behind : List ℕ) (c : Comparison) (page : PageName) (inputs : Inputs) (begins : pages_in (lines_of rest) ≡ (page, inputs) ∷ pages_in (lines_of behind)) (shorter : length behind < length rest) (goes : GoesOn rest c) where
    left_of : asked only (pages_in (lines_of rest)) ≡ cond (is_asked only page) ((page, inputs) ∷ asked only (pages_in (lines_of behind))) (asked only (pages_in (lines_of behind)))
    left_of = ap (asked only) begins

    -- a page that is not asked for
    pub goes_past : is_asked only page ≡ false → GoesOn behind c
    goes_past other =
        let same : asked only (pages_in (lines_of rest)) ≡ asked only (pages_in (lines_of behind)) = left_of ∙ one_past (is_asked only page) (page, inputs) (asked only (pages_in (lines_of behind))) other in
        record {
          found = λ more are. goes.found more (subst (λ (es : Contents). AreFound old new es more) (sym same) are);
          sums = goes.sums;
          few = goes.few;
          room = omega (arith, goes.room, shorter);
        }

    module _ (f : Found) (left : List ℕ) (d : Comparison) (here : is_asked only page ≡ true) (is : IsFound (rules_on old new page) inputs f) (passed : pages_in (lines_of left) ≡ pages_in (lines_of behind))
        (one : pages_view d.pages.items ≡ pages_view c.pages.items ++ record { page = page; found = f } ∷ []) where
      same_left : asked only (pages_in (lines_of rest)) ≡ (page, inputs) ∷ asked only (pages_in (lines_of left))
      same_left =
          left_of ∙ one_asked (is_asked only page) (page, inputs) (asked only (pages_in (lines_of behind))) here ∙ ap (λ (es : Contents). (page, inputs) ∷ asked only es) (sym passed)

      all_found : (more : List PageFound) → AreFound old new (asked only (pages_in (lines_of left))) more → AreFound old new (asked only (pages_in (lines_of bytes))) (pages_view d.pages.items ++ more)
      all_found more are =
          let first : PageFound = record { page = page; found = f } in
          let next = goes.found (first ∷ more) (subst (λ (es : Contents). AreFound old new es (first ∷ more)) (sym same_left) (f, more, is, are, refl)) in
          let ends : pages_view d.pages.items ++ more ≡ pages_view c.pages.items ++ (first ∷ more) = ap (λ (ps : List PageFound). ps ++ more) one ∙ append_assoc (pages_view c.pages.items) (first ∷ []) more in
          subst (λ (ps : List PageFound). AreFound old new (asked only (pages_in (lines_of bytes))) ps) (sym ends) next

      -- a page that is
      pub goes_over : (AreSums c → AreSums d) → switches_in f ≤ inputs_in f → inputs_in f + length left ≤ length behind → d.inputs ≡ c.inputs + inputs_in f → d.switched ≡ c.switched + switches_in f → d.left ≡ c.left + cond (is_left f) 1 0 → GoesOn left d
      goes_over sums few room more_inputs more_switched more_left = record {
        found = all_found;
        sums = sums goes.sums;
        few = omega (arith, goes.few, few, more_inputs, more_switched);
        room = omega (arith, goes.room, room, shorter, more_inputs, more_left, most_one (is_left f));
      }

  -- no page is left
  pub goes_all : (rest : List ℕ) (c : Comparison) → pages_in (lines_of rest) ≡ [] → GoesOn rest c → Compares old new (asked only (pages_in (lines_of bytes))) c
  goes_all rest c none goes = record {
    found = subst (λ (ps : List PageFound). AreFound old new (asked only (pages_in (lines_of bytes))) ps) (append-nil (pages_view c.pages.items)) (goes.found [] (subst (λ (es : Contents). AreFound old new (asked only es) []) (sym none) refl));
    sums = goes.sums;
  }
