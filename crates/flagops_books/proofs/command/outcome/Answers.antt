use Rattle.std.proofs.Common.{rules, ◌≡◌, ◌∙◌, Ok, Err, IfSome, ap, length, subst, sym}
use Rattle.std.proofs.lemmas.Result.{err_from_is_err_and}
use Rattle.std.specs.Prelude.{Result}
use Rattle.flagops_books.specs.Attempts.{book_attempts, read_attempts}
use Rattle.flagops_books.specs.Report.{IsBookReport, IsUnitedFor}
use Rattle.flagops_books.specs.Step.{GivesUnited, HaveSucceeded}
use Rattle.flagops_books.specs.Words.{uniting_view}
use Rattle.flagops_books.specs.declared.uniting.Step.{Step}
use Rattle.flagops_books.specs.Refusal.{GivesOne, Refused, TellsOfFirst}
use Rattle.flagops_shell.specs.Report.{outcome_view}
use Rattle.flagops_shell.specs.declared.outcome.Outcome.{Outcome}
use Rattle.flagops_books.proofs.Ending.{as_many, left, no_union, read_first, stored_reported, stray_reported, told_noted, told_stopped, written_last}
use Rattle.flagops_books.proofs.Following.{everywhere}
use Rattle.flagops_books.proofs.command.outcome.Goals as goal

pub returns-in_err-came-clause-exact : goal.returns-in_err-came-clause-exact
returns-in_err-came-clause-exact g c =
    let u = uniting_view c.args.asked.now in
    let old = g.F.FileSet.holding c.args.files.now in
    let new = g.F.FileSet.holding c.united_for.new.files in
    let refused = c.in_err-came.field-0.0 in
    let p = err_from_is_err_and c.from_residual.result c.from_residual.ensures.1 in
    let is : c.from_residual.result ≡ Err refused = p.1 ∙ ap Err p.2 in
    let came = c.in_err-came.ensures.exact in
    subst (λ (r : Result Outcome Refused). IfSome old (λ at. GivesOne outcome_view r (IsBookReport at new u))) (sym is) (no_union u old new refused c.united_for.ensures.kept came)

pub returns-in-Noted-clause-exact : goal.returns-in-Noted-clause-exact
returns-in-Noted-clause-exact g c =
    let u = uniting_view c.args.asked.now in
    let old = g.F.FileSet.holding c.args.files.now in
    let many : length u.files ≡ c.len.result = as_many (λ f. f.now) c.args.asked.now.files.items c.len.result (search rules) in
    let came = c.in_ok-came.ensures.exact in
    stored_reported u c.in-Noted.all c.len.result many old (g.F.FileSet.holding c.united_for.new.files) (g.F.FileSet.holding c.stored.new.files) c.stored.result c.united_for.ensures.kept
    (subst (λ (s : Step). IfSome old (λ at. GivesUnited (Ok s) (IsUnitedFor u at))) c.in-Noted.is came) c.stored.ensures.exact

pub returns-in-Noted-clause-notes : goal.returns-in-Noted-clause-notes
returns-in-Noted-clause-notes g c =
    let u = uniting_view c.args.asked.now in
    let old = g.F.FileSet.holding c.args.files.now in
    told_noted u old c.in-Noted.all c.stored.result (subst (λ (s : Step). IfSome old (λ at. GivesUnited (Ok s) (IsUnitedFor u at))) c.in-Noted.is c.in_ok-came.ensures.exact) c.stored.ensures.told

pub returns-in-Stopped-clause-notes : goal.returns-in-Stopped-clause-notes
returns-in-Stopped-clause-notes g c =
    let u = uniting_view c.args.asked.now in
    let old = g.F.FileSet.holding c.args.files.now in
    told_stopped u old c.in-Stopped.outcome (subst (λ (s : Step). IfSome old (λ at. GivesUnited (Ok s) (IsUnitedFor u at))) c.in-Stopped.is c.in_ok-came.ensures.exact)

pub returns-in-Stopped-clause-exact : goal.returns-in-Stopped-clause-exact
returns-in-Stopped-clause-exact g c =
    let u = uniting_view c.args.asked.now in
    let old = g.F.FileSet.holding c.args.files.now in
    let came = c.in_ok-came.ensures.exact in
    stray_reported u old (g.F.FileSet.holding c.united_for.new.files) c.in-Stopped.outcome c.united_for.ensures.kept
    (subst (λ (s : Step). IfSome old (λ at. GivesUnited (Ok s) (IsUnitedFor u at))) c.in-Stopped.is came)

pub returns-in-Noted-clause-left : goal.returns-in-Noted-clause-left
returns-in-Noted-clause-left g c =
    let u = uniting_view c.args.asked.now in
    let old = g.F.FileSet.holding c.args.files.now in
    let came = c.in_ok-came.ensures.exact in
    left u old (g.F.FileSet.holding c.united_for.new.files) (g.F.FileSet.holding c.stored.new.files) c.in-Noted.all c.united_for.ensures.kept
    (subst (λ (s : Step). IfSome old (λ at. GivesUnited (Ok s) (IsUnitedFor u at))) c.in-Noted.is came) c.stored.ensures.others

pub returns-in_err-came-clause-names : goal.returns-in_err-came-clause-names
returns-in_err-came-clause-names g c =
    let u = uniting_view c.args.asked.now in
    let old = g.F.FileSet.holding c.args.files.now in
    let refused = c.in_err-came.field-0.0 in
    let p = err_from_is_err_and c.from_residual.result c.from_residual.ensures.1 in
    let is : c.from_residual.result ≡ Err refused = p.1 ∙ ap Err p.2 in
    subst (λ (r : Result Outcome Refused). IfSome old (λ at. TellsOfFirst (book_attempts at u) r)) (sym is) (read_first u old refused c.in_err-came.ensures.names)

pub returns-in-Noted-clause-names : goal.returns-in-Noted-clause-names
returns-in-Noted-clause-names g c =
    let u = uniting_view c.args.asked.now in
    let old = g.F.FileSet.holding c.args.files.now in
    written_last u old c.in-Noted.all c.stored.result (subst (λ (s : Step). IfSome old (λ at. HaveSucceeded (read_attempts at u) (Ok s))) c.in-Noted.is c.in_ok-came.ensures.succeed) c.stored.ensures.calls c.stored.ensures.names

pub returns-in-Stopped-clause-names : goal.returns-in-Stopped-clause-names
returns-in-Stopped-clause-names g c = everywhere (g.F.FileSet.holding c.args.files.now) (λ at. Unit {0}) (λ at. tt)
