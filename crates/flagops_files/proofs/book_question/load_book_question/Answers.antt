use Rattle.std.proofs.Common.{◌≡◌, ◌∙◌, Err, ap}
use Rattle.std.proofs.lemmas.Result.{err_from_is_err_and}
use Rattle.flagops_files.proofs.Asked.{failed_last, first_book, no_book}
use Rattle.flagops_files.proofs.book_question.load_book_question.Goals as goal

pub returns-in_err-book-clause-exact : goal.returns-in_err-book-clause-exact
returns-in_err-book-clause-exact g c =
    let p = err_from_is_err_and c.from_residual-in_err-book.result c.from_residual-in_err-book.ensures.1 in
    let is : c.from_residual-in_err-book.result ≡ Err c.in_err-book.field-0.0 = p.1 ∙ ap Err p.2 in
    no_book c.args.floats c.args.document.now c.args.request.now c.args.book.now _ _ c.in_err-book.field-0.0 _ _ _ c.from_residual-in_err-book.result is c.load_document.ensures.kept
    c.load_request.ensures.kept c.in_ok-bytes.ensures.exact c.in_ok-request.ensures.exact c.in_err-book.ensures.exact

pub returns-in_err-book-clause-failed : goal.returns-in_err-book-clause-failed
returns-in_err-book-clause-failed g c =
    let p = err_from_is_err_and c.from_residual-in_err-book.result c.from_residual-in_err-book.ensures.1 in
    let is : c.from_residual-in_err-book.result ≡ Err c.in_err-book.field-0.0 = p.1 ∙ ap Err p.2 in
    failed_last _ _ _ _ c.in_err-book.field-0.0 c.from_residual-in_err-book.result is c.in_ok-bytes.ensures.failed c.in_ok-request.ensures.failed c.in_err-book.ensures.failed

pub returns-in_err-book-clause-first : goal.returns-in_err-book-clause-first
returns-in_err-book-clause-first g c =
    let p = err_from_is_err_and c.from_residual-in_err-book.result c.from_residual-in_err-book.ensures.1 in
    let is : c.from_residual-in_err-book.result ≡ Err c.in_err-book.field-0.0 = p.1 ∙ ap Err p.2 in
    first_book c.args.floats c.args.document.now c.args.request.now c.args.book.now _ _ c.in_err-book.field-0.0 _ _ _ c.from_residual-in_err-book.result is c.load_document.ensures.kept
    c.load_request.ensures.kept c.in_ok-bytes.ensures.exact c.in_ok-request.ensures.exact c.in_err-book.ensures.exact c.in_err-book.ensures.names
