use Rattle.std.proofs.Common.{◌==◌, ap, sym, ◌∙◌, arith}
use Rattle.std.specs.List.{list_all}
use Rattle.book_core.specs.Book.{inputs_on}
use Rattle.book_core.specs.Counts.{counts_of}
use Rattle.page_tally.proofs.Filed.{same_page, zero_none}
use Rattle.page_tally.proofs.file.BookFile.has_none.Goals as goal

pub returns-then-eq : goal.returns-then-eq
returns-then-eq g c =
    let s = c.self.inside in
    let page = c.args.page.now in
    let book = c.args.self.now in
    let same = same_page book page s.page (sym c.eq.ensures ∙ c.if-eq.true) in
    let kept = c.self.invariant.tally ∙ (ap (λ b. counts_of (inputs_on b s.page) s.total) c.self.view_is ∙ ap (λ xs. counts_of xs s.total) (sym same)) in
    c.are_zero.ensures ∙ (ap (list_all (λ count. count == 0)) (c.as_slice.ensures.value ∙ kept) ∙ zero_none (inputs_on book page) s.total c.self.invariant.some)

pub returns : goal.returns
returns g c =
    c.are_zero-2.ensures ∙ (ap (list_all (λ count. count == 0)) (c.as_slice-2.ensures.value ∙ c.in_ok-counts.ensures) ∙ zero_none (inputs_on c.args.self.now c.args.page.now) 1 (omega arith))
