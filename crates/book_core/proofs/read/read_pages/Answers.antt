use Rattle.std.proofs.Common.{◌≡◌, ◌++◌, [], ◌∷◌, true, false, Some, sym, ap, ◌∙◌}
use Rattle.std.proofs.lemmas.Result.{err_from_is_err_and}
use Rattle.book_core.specs.Book.{contents_view, inputs_view}
use Rattle.book_core.specs.Lines.{last_of, with_line, with_page}
use Rattle.book_core.specs.PageOrder.{pages_total}
use Rattle.book_core.specs.Reading.{begins, comes_after, ends_page, first_fault, lines_book, lines_of, pages_in, unless}
use Rattle.book_core.proofs.Taken.{contents_view-append, first_refused, first_taken, insert_entry-above, page_below, page_ends, page_read, page_refused, renumbered, taken_lines}
use Rattle.book_core.proofs.read.read_pages.Goals as goal

pub returns-in_err-next : goal.returns-in_err-next
returns-in_err-next c =
    let p = err_from_is_err_and c.from_residual.result c.from_residual.ensures.1 in
    rw (p.1, p.2) (λ other. first_refused (lines_of c.args.lines.now.rest.now) c.args.lines.now.taken c.in_err-next.field-0.0 c.requires (c.in_err-next.ensures.fault other))

pub pages-init : goal.pages-init
pages-init c =
    let book = contents_view c.new-pages.result.entries in
    let none : book ≡ [] = ap contents_view c.new-pages.ensures.empty in
    let here = with_page c.in_ok-next.next (lines_of c.first_page.new.lines.rest.now) in
    ap (λ b. unless (first_fault c.first_page.new.lines.taken (last_of b) here) (b ++ pages_in here)) none
    ∙ first_taken c.in_ok-next.next (lines_of c.args.lines.now.rest.now) (lines_of c.first_page.new.lines.rest.now) c.args.lines.now.taken c.first_page.new.lines.taken _ c.in_ok-next.ensures.page c.in_ok-next.ensures.number c.requires

pub returns-then-ends_page : goal.returns-then-ends_page
returns-then-ends_page c = λ _.
    let n = c.pages.lines.taken in
    let ls = lines_of c.pages.lines.rest.now in
    let book = contents_view c.pages.pages.entries in
    let page = c.in-Some.page in
    let after = lines_of c.take.new.self.rest.now in
    let ends : ends_page ls ≡ true = ap ends_page (taken_lines c.in_ok-first.first ls after c.in_ok-first.ensures.next) ∙ sym (c.ends_page.ensures after) ∙ c.if-ends_page.true in
    let here = ap (λ o. unless (first_fault n (last_of book) (with_page o ls)) (book ++ pages_in (with_page o ls))) c.in-Some.is in
    sym c.pages.invariant ∙ here ∙ page_ends n (last_of book) page ls (book ++ pages_in (begins page ∷ ls)) ends

pub returns-then-not-comes_after : goal.returns-then-not-comes_after
returns-then-not-comes_after c = λ _.
    let n = c.pages.lines.taken in
    let ls = lines_of c.pages.lines.rest.now in
    let book = contents_view c.pages.pages.entries in
    let page = c.in-Some.page in
    let after = lines_of c.take.new.self.rest.now in
    let goes : ends_page ls ≡ false = ap ends_page (taken_lines c.in_ok-first.first ls after c.in_ok-first.ensures.next) ∙ sym (c.ends_page.ensures after) ∙ c.if-ends_page.false in
    let below : comes_after (last_of book) page ≡ false = sym c.comes_after.ensures.last ∙ c.if-not-comes_after.true in
    let here = ap (λ o. unless (first_fault n (last_of book) (with_page o ls)) (book ++ pages_in (with_page o ls))) c.in-Some.is in
    sym c.pages.invariant ∙ here ∙ page_below n (last_of book) page ls (book ++ pages_in (begins page ∷ ls)) goes below

pub returns-in_err-inputs : goal.returns-in_err-inputs
returns-in_err-inputs c =
    let n = c.pages.lines.taken in
    let ls = lines_of c.pages.lines.rest.now in
    let book = contents_view c.pages.pages.entries in
    let page = c.in-Some.page in
    let after = lines_of c.take.new.self.rest.now in
    let first = c.in_ok-first.first in
    let lines = taken_lines first ls after c.in_ok-first.ensures.next in
    let goes : ends_page ls ≡ false = ap ends_page lines ∙ sym (c.ends_page.ensures after) ∙ c.if-ends_page.false in
    let above : comes_after (last_of book) page ≡ true = sym c.comes_after.ensures.last ∙ c.if-not-comes_after.false in
    let here = ap (λ o. unless (first_fault n (last_of book) (with_page o ls)) (book ++ pages_in (with_page o ls))) c.in-Some.is in
    let number = renumbered first after (Some (page, [])) n c.take.new.self.taken _ c.in_ok-first.ensures.number in
    let p = err_from_is_err_and c.from_residual-in_err-inputs.result c.from_residual-in_err-inputs.ensures.1 in
    rw (p.1, p.2) (λ other.
    sym c.pages.invariant ∙ here ∙ page_refused n c.take.new.self.taken (last_of book) page ls (with_line first after) (book ++ pages_in (begins page ∷ ls)) c.in_err-inputs.field-0.0 goes above lines number (c.in_err-inputs.ensures.fault other page))

pub pages-preserved : goal.pages-preserved
pages-preserved c =
    let n = c.pages.lines.taken in
    let ls = lines_of c.pages.lines.rest.now in
    let es = c.pages.pages.entries in
    let book = contents_view es in
    let page = c.in-Some.page in
    let after = lines_of c.take.new.self.rest.now in
    let first = c.in_ok-first.first in
    let inputs = c.in_ok-inputs.inputs in
    let lines = taken_lines first ls after c.in_ok-first.ensures.next in
    let goes : ends_page ls ≡ false = ap ends_page lines ∙ sym (c.ends_page.ensures after) ∙ c.if-ends_page.false in
    let above : comes_after (last_of book) page ≡ true = sym c.comes_after.ensures.last ∙ c.if-not-comes_after.false in
    let here = ap (λ o. unless (first_fault n (last_of book) (with_page o ls)) (book ++ pages_in (with_page o ls))) c.in-Some.is in
    let number = renumbered first after (Some (page, [])) n c.take.new.self.taken _ c.in_ok-first.ensures.number in
    let grown : contents_view c.insert.new.self.entries ≡ book ++ (page, inputs_view inputs) ∷ [] =
    ap contents_view (c.in_ok-insert.ensures.entries ∙ insert_entry-above pages_total es page inputs (c.comes_after.ensures.all c.if-not-comes_after.false)) ∙ contents_view-append es page inputs in
    page_read book (contents_view c.insert.new.self.entries) page (inputs_view inputs) n c.take.new.self.taken c.read_inputs.new.lines.taken ls (with_line first after)
    (with_page c.in_ok-inputs.after (lines_of c.read_inputs.new.lines.rest.now)) (lines_book (lines_of c.args.lines.now.rest.now)) (sym here ∙ c.pages.invariant) goes above lines number c.in_ok-inputs.ensures.taken grown
