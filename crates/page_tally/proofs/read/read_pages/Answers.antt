use Rattle.std.proofs.Common.{◌≡◌, ◌+◌, ◌<◌, ℕ, length, None, Some, option_to_list, replicate, sym, ap, ◌∙◌, arith}
use Rattle.std.proofs.lemmas.Result.{err_from_is_err_and}
use Rattle.book_core.specs.Page.{PageName}
use Rattle.book_core.specs.Reading.{lines_of}
use Rattle.page_tally.specs.Folding.{tally_after, tally_from}
use Rattle.page_tally.specs.Lines.{with_line, with_page}
use Rattle.page_tally.proofs.Paging.{page_begins, page_at_fault, whole_begun, line_behind, at_most_one}
use Rattle.page_tally.proofs.read.read_pages.Goals as goal

pub returns-in_err-next : goal.returns-in_err-next
returns-in_err-next g c =
    let p = err_from_is_err_and c.from_residual-in_err-next.result c.from_residual-in_err-next.ensures.1 in
    let zeros = replicate {A = ℕ} c.args.total 0 in
    let second : 2 ≡ c.args.lines.now.taken + 1 = omega (arith, c.requires.number) in
    rw (p.1, p.2) (λ other. ap (λ n. tally_after c.args.wanted.now c.args.total None n zeros (lines_of c.args.lines.now.rest.now)) second ∙ c.in_err-next.ensures.fault other c.args.wanted.now c.args.total zeros)

pub returns-in_err-check_page : goal.returns-in_err-check_page
returns-in_err-check_page g c =
    let p = err_from_is_err_and c.from_residual-in_err-check_page.result c.from_residual-in_err-check_page.ensures.1 in
    let n = c.pages.lines.taken in
    let ls = lines_of c.pages.lines.rest.now in
    let after = lines_of c.take.new.self.rest.now in
    let counts = c.pages.counter.counts in
    let here = ap (λ o. tally_after c.args.wanted.now c.args.total c.pages.before n counts (with_page o ls)) c.in-Some.is in
    rw (p.1, p.2) (λ other. sym c.pages.invariant.read ∙ here ∙ page_at_fault c.in_ok-first.first ls after n c.pages.before c.in-Some.page c.args.wanted.now c.args.total counts c.in_err-check_page.field-0.0 c.in_ok-first.ensures.next (c.in_err-check_page.ensures.fault after))

pub returns-in_err-next-2 : goal.returns-in_err-next-2
returns-in_err-next-2 g c =
    let p = err_from_is_err_and c.from_residual-in_err-next-2.result c.from_residual-in_err-next-2.ensures.1 in
    let n = c.pages.lines.taken in
    let m = c.take.new.self.taken in
    let wanted = c.args.wanted.now in
    let total = c.args.total in
    let page = c.in-Some.page in
    let first = c.in_ok-first.first in
    let ls = lines_of c.pages.lines.rest.now in
    let after = lines_of c.take.new.self.rest.now in
    let counts = c.pages.counter.counts in
    let here = ap (λ o. tally_after wanted total c.pages.before n counts (with_page o ls)) c.in-Some.is in
    let start = page_begins first ls after n m _ c.pages.before page wanted total counts c.in_ok-first.ensures.next c.in_ok-first.ensures.number (c.in_ok-check_page.ensures.good after) in
    let kept = ap (λ k. tally_from wanted total (Some page) m None k (with_line first after)) (sym c.begin.ensures) in
    rw (p.1, p.2) (λ other. sym c.pages.invariant.read ∙ here ∙ start ∙ kept ∙ c.in_err-next-2.ensures.fault other wanted page total)

pub pages-smaller : goal.pages-smaller
pages-smaller g c =
    let next = c.in_ok-next-2.next in
    let less = line_behind c.in_ok-first.first (lines_of c.take.new.self.rest.now) c.pages.lines.taken c.pages.before c.in-Some.page _ (length c.take.new.self.rest.now) (length c.pages.lines.rest.now) (c.in_ok-check_page.ensures.good (lines_of c.take.new.self.rest.now)) c.in_ok-first.ensures.shorter in
    let fewer = c.in_ok-next-2.ensures.shorter in
    let most = at_most_one next in
    let one : length (option_to_list {X = PageName} c.pages.next) ≡ 1 = ap (λ o. length (option_to_list {X = PageName} o)) c.in-Some.is in
    let smaller : length c.read_inputs.new.lines.rest.now + length (option_to_list {X = PageName} next) < length c.pages.lines.rest.now + length (option_to_list {X = PageName} c.pages.next) = omega (arith, less, fewer, most, one) in
    smaller

pub pages-preserved : goal.pages-preserved
pages-preserved g c =
    let n = c.pages.lines.taken in
    let m = c.take.new.self.taken in
    let wanted = c.args.wanted.now in
    let total = c.args.total in
    let page = c.in-Some.page in
    let first = c.in_ok-first.first in
    let ls = lines_of c.pages.lines.rest.now in
    let after = lines_of c.take.new.self.rest.now in
    let counts = c.pages.counter.counts in
    let here = ap (λ o. tally_after wanted total c.pages.before n counts (with_page o ls)) c.in-Some.is in
    let start = page_begins first ls after n m _ c.pages.before page wanted total counts c.in_ok-first.ensures.next c.in_ok-first.ensures.number (c.in_ok-check_page.ensures.good after) in
    let kept = ap (λ k. tally_from wanted total (Some page) m None k (with_line first after)) c.begin.ensures in
    record {
      read = sym (c.in_ok-next-2.ensures.read wanted page total) ∙ kept ∙ sym start ∙ sym here ∙ c.pages.invariant.read;
      whole = c.in_ok-next-2.ensures.whole ∙ whole_begun wanted total page counts c.begin.new.counter c.begin.ensures c.pages.invariant.whole;
    }
