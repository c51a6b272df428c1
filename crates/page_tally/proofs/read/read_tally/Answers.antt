use Rattle.std.proofs.Common.{◌≡◌, ℕ, true, false, List, None, Err, Vec, Global, replicate, sym, ap, ◌∙◌, subst}
use Rattle.flag_text.specs.Outcome.{GivesUnless}
use Rattle.book_core.specs.Reading.{book_of, lines_of}
use Rattle.book_core.specs.declared.fault.BookFileFault.TheVariants.{WantOfMemory}
use Rattle.book_core.proofs.Cut.{bool_within, book_of-cut, book_of-unended}
use Rattle.page_tally.specs.Folding.{tally_after}
use Rattle.page_tally.specs.Tally.{if_book, page_counts, tally_of}
use Rattle.page_tally.proofs.Joined.{tally_lines}
use Rattle.page_tally.proofs.read.read_tally.Goals as goal

pub returns-in_ok-is_header-in-None : goal.returns-in_ok-is_header-in-None
unfolding tally_of
returns-in_ok-is_header-in-None g c = λ _.
    let header = bool_within _ _ c.in_ok-is_header-in-None.ensures in
    ap (if_book (page_counts c.args.page.now c.args.total)) (book_of-unended c.args.bytes.now c.in_ok-is_header-in-None.field-0 c.in-None.ensures.parts header) ∙ ap Err (sym c.unended.ensures)

pub returns-then-not-branch : goal.returns-then-not-branch
unfolding tally_of
returns-then-not-branch g c = λ _.
    let header = bool_within _ _ c.in_ok-is_header-in-Some.ensures ∙ c.if-not-branch.true in
    ap (if_book (page_counts c.args.page.now c.args.total)) (book_of-cut c.args.bytes.now c.in-Some.first.now c.in-Some.rest.now false c.in-Some.ensures.parts header)

pub returns-else-not-branch : goal.returns-else-not-branch
unfolding tally_of
returns-else-not-branch g c =
    let header = bool_within _ _ c.in_ok-is_header-in-Some.ensures ∙ c.if-not-branch.false in
    let page = c.args.page.now in
    let total = c.args.total in
    let rest = lines_of c.in-Some.rest.now in
    let same : if_book (page_counts page total) (book_of c.args.bytes.now) ≡ tally_after page total None 2 (replicate total 0) rest =
    ap (if_book (page_counts page total)) (book_of-cut c.args.bytes.now c.in-Some.first.now c.in-Some.rest.now true c.in-Some.ensures.parts header) ∙ sym (tally_lines page total rest c.requires.some) in
    subst (λ r. GivesUnless {X = Vec ℕ Global} {Y = List ℕ} WantOfMemory (λ counts. counts.items) c.read_pages.result r) (sym same) c.read_pages.ensures
