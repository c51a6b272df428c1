use Rattle.std.proofs.Common.{◌++◌, flat_map, ap, ap₂, ◌∙◌, subst}
use Rattle.std.specs.List.{AllByRecursion}
use Rattle.book_core.specs.Book.{contents_view}
use Rattle.book_core.specs.Printing.{Reads, ReadsPage, book_text, header_shape, line_text, page_text}
use Rattle.book_core.specs.Reading.{book_of}
use Rattle.book_core.proofs.Printed.{book_of-text}
use Rattle.book_core.proofs.print.print_book.Goals as goal

pub returns-clause-text : goal.returns-clause-text
unfolding book_text
returns-clause-text c =
    let es = c.pages.result.now.entries in
    c.in_ok-push_pages.ensures.text
    ∙ ap (λ xs. xs ++ flat_map page_text (contents_view es)) (c.in_ok-push_line.ensures.text ∙ ap₂ (λ xs t. xs ++ line_text t) c.new-out.ensures.items c.in_ok-header_tree.ensures)
    ∙ ap (λ b. line_text header_shape ++ flat_map page_text b) c.pages.ensures.contents

pub returns-clause-reads_back : goal.returns-clause-reads_back
unfolding book_text
returns-clause-reads_back c =
    let es = c.pages.result.now.entries in
    let text = c.in_ok-push_pages.ensures.text
    ∙ ap (λ xs. xs ++ flat_map page_text (contents_view es)) (c.in_ok-push_line.ensures.text ∙ ap₂ (λ xs t. xs ++ line_text t) c.new-out.ensures.items c.in_ok-header_tree.ensures)
    ∙ ap (λ b. line_text header_shape ++ flat_map page_text b) c.pages.ensures.contents in
    let header : Reads header_shape = subst Reads c.in_ok-header_tree.ensures c.in_ok-push_line.ensures.reads in
    let pages : AllByRecursion ReadsPage c.args.book.now = subst (AllByRecursion ReadsPage) c.pages.ensures.contents c.in_ok-push_pages.ensures.reads in
    ap book_of text ∙ book_of-text c.args.book.now c.pages.ensures.lawful header pages
