-- what is kept is of the page that is asked for, and no page has more than it may
use Rattle.std.proofs.Common.{◌≡◌, ◌≤◌, ℕ, Vec, Global, length, ap, sym, ◌∙◌, subst}
use Rattle.std.proofs.lemmas.Result.{IfOk-weaker}
use Rattle.book_core.specs.Book.{inputs_on, most_inputs}
use Rattle.book_core.specs.Counts.{counts_of}
use Rattle.page_tally.proofs.Filed.{few_in_file, if_given, same_page}
use Rattle.page_tally.proofs.file.BookFileRecorded.tally.Goals as goal

pub returns-then-total-self-clause-counts : goal.returns-then-total-self-clause-counts
returns-then-total-self-clause-counts g c =
    let s = c.self.inside in
    let page = c.args.page.now in
    let book = c.args.self.now in
    let same = same_page book page s.page (sym c.eq.ensures ∙ c.if-eq.true) in
    let kept = c.self.invariant.tally ∙ (ap (λ b. counts_of (inputs_on b s.page) s.total) c.self.view_is ∙ (ap (λ xs. counts_of xs s.total) (sym same) ∙ ap (counts_of (inputs_on book page)) (sym c.if-total-self.true))) in
    IfOk-weaker c.copied.result (λ (v : Vec ℕ Global). v.items ≡ c.as_slice.result.now) (λ (v : Vec ℕ Global). v.items ≡ counts_of (inputs_on book page) c.args.total)
    (λ v is. is ∙ (c.as_slice.ensures.value ∙ kept))
    c.copied.ensures

pub returns-then-total-self-clause-few : goal.returns-then-total-self-clause-few
returns-then-total-self-clause-few g c =
    let s = c.self.inside in
    let few = subst (λ b. length (inputs_on b c.args.page.now) ≤ most_inputs) c.self.view_is (few_in_file s.bytes.items c.args.page.now s.page s.total s.counts.items c.self.invariant) in
    if_given c.copied.result (λ v. few)

pub returns-clause-few : goal.returns-clause-few
returns-clause-few g c =
    let s = c.self.inside in
    let few = subst (λ b. length (inputs_on b c.args.page.now) ≤ most_inputs) c.self.view_is (few_in_file s.bytes.items c.args.page.now s.page s.total s.counts.items c.self.invariant) in
    if_given c.counted.result (λ v. few)
