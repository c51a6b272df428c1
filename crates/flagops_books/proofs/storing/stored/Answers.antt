use Rattle.std.proofs.Common.{◌≡◌, ◌∙◌, Err, IfSome, ap, refl, string_bytes, subst, sym}
use Rattle.std.proofs.lemmas.Result.{err_from_is_err_and}
use Rattle.std.specs.Prelude.{Result}
use Rattle.book_core.specs.Book.{input_count}
use Rattle.book_core.specs.Printing.{book_text}
use Rattle.flagops_books.specs.Refusal.{GivesOne, Refused}
use Rattle.flagops_books.specs.Report.{IsStored, counts_text, replaces_at}
use Rattle.flagops_books.specs.Told.{is_told}
use Rattle.flagops_shell.specs.Report.{outcome_view}
use Rattle.flagops_shell.specs.declared.outcome.Outcome.{Outcome}
use Rattle.flagops_books.proofs.Losing.{failed_after, not_stored, stored_by, stored_so}
use Rattle.flagops_shell.proofs.Kept.{kept_after, others_after}
use Rattle.flagops_books.proofs.storing.stored.Goals as goal

pub returns-in_err-check_losses-clause-exact : goal.returns-in_err-check_losses-clause-exact
returns-in_err-check_losses-clause-exact g c =
    let old = g.F.FileSet.holding c.args.files.now in
    let after = g.F.FileSet.holding c.check_losses.new.files in
    let book = c.args.all.book in
    let text = counts_text (input_count book) c.args.count in
    let told = is_told (string_bytes c.args.all.told) in
    let refused = c.in_err-check_losses.field-0.0 in
    let p = err_from_is_err_and c.from_residual.result c.from_residual.ensures.1 in
    let is : c.from_residual.result ≡ Err refused = p.1 ∙ ap Err p.2 in
    subst (λ (r : Result Outcome Refused). IfSome old (λ at. GivesOne outcome_view r (IsStored (replaces_at at c.args.out.now c.args.lossy book) at after c.args.out.now (book_text book) text told))) (sym is)
    (not_stored old after c.args.out.now c.args.lossy book (book_text book) text told refused c.check_losses.ensures.kept c.in_err-check_losses.ensures.exact)

pub returns-clause-exact : goal.returns-clause-exact
returns-clause-exact g c =
    stored_so (g.F.FileSet.holding c.args.files.now) (g.F.FileSet.holding c.saved.new.files) c.args.out.now c.args.lossy c.args.all.book (book_text c.args.all.book) (counts_text (input_count c.args.all.book) c.args.count) (is_told (string_bytes c.args.all.told))
    (g.F.FileSet.holding c.check_losses.new.files) c.saved.result c.check_losses.ensures.kept c.in_ok-check_losses.ensures.exact c.saved.ensures.exact

pub returns-clause-others : goal.returns-clause-others
returns-clause-others g c = others_after _ _ _ _ c.check_losses.ensures.kept c.saved.ensures.others

pub returns-clause-kept : goal.returns-clause-kept
returns-clause-kept g c = kept_after _ _ _ _ _ refl c.check_losses.ensures.kept c.saved.ensures.kept

pub returns-clause-calls : goal.returns-clause-calls
returns-clause-calls g c = stored_by c.saved.result c.saved.ensures.calls

pub returns-clause-failed : goal.returns-clause-failed
returns-clause-failed g c = failed_after _ _ _ _ c.in_ok-check_losses.ensures.failed c.saved.ensures.failed
