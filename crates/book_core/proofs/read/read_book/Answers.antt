use Rattle.std.proofs.Common.{◌≡◌, true, false, Ok, Err, sym, ap, ◌∙◌}
use Rattle.std.proofs.lemmas.Result.{err_from_is_err_and}
use Rattle.book_core.specs.Book.{contents_view}
use Rattle.book_core.specs.Reading.{book_of, lines_book, lines_of}
use Rattle.book_core.proofs.Cut.{bool_within, book_of-cut, book_of-unended}
use Rattle.book_core.proofs.Lawful.{lawful_lines}
use Rattle.book_core.proofs.read.read_book.Goals as goal

pub returns-in_ok-is_header-in-None : goal.returns-in_ok-is_header-in-None
returns-in_ok-is_header-in-None c = λ _.
    let header = bool_within _ _ c.in_ok-is_header-in-None.ensures in
    book_of-unended c.args.bytes.now c.in_ok-is_header-in-None.field-0 c.in-None.ensures.parts header ∙ ap Err (sym c.unended.ensures)

pub returns-then-not-branch : goal.returns-then-not-branch
returns-then-not-branch c = λ _.
    let header = bool_within _ _ c.in_ok-is_header-in-Some.ensures ∙ c.if-not-branch.true in
    book_of-cut c.args.bytes.now c.in-Some.first.now c.in-Some.rest.now false c.in-Some.ensures.parts header

pub returns-in_err-pages-in-Some : goal.returns-in_err-pages-in-Some
returns-in_err-pages-in-Some c =
    let header = bool_within _ _ c.in_ok-is_header-in-Some.ensures ∙ c.if-not-branch.false in
    let book : book_of c.args.bytes.now ≡ lines_book (lines_of c.in-Some.rest.now) = book_of-cut c.args.bytes.now c.in-Some.first.now c.in-Some.rest.now true c.in-Some.ensures.parts header in
    let p = err_from_is_err_and c.from_residual-in_err-pages-in-Some.result c.from_residual-in_err-pages-in-Some.ensures.1 in
    rw (p.1, p.2) (λ other. book ∙ c.in_err-pages-in-Some.ensures other)

pub of_pages-requires : goal.of_pages-requires
of_pages-requires c = lawful_lines (lines_of c.in-Some.rest.now) (contents_view c.in_ok-pages-in-Some.pages.entries) c.in_ok-pages-in-Some.ensures

pub returns-in_ok-pages-in-Some : goal.returns-in_ok-pages-in-Some
returns-in_ok-pages-in-Some c =
    let header = bool_within _ _ c.in_ok-is_header-in-Some.ensures ∙ c.if-not-branch.false in
    let book : book_of c.args.bytes.now ≡ lines_book (lines_of c.in-Some.rest.now) = book_of-cut c.args.bytes.now c.in-Some.first.now c.in-Some.rest.now true c.in-Some.ensures.parts header in
    book ∙ c.in_ok-pages-in-Some.ensures ∙ ap Ok (sym c.of_pages.ensures)
