use Rattle.std.proofs.Common.{◌≡◌, ◌∙◌, Err, IfSome, ap, subst, sym}
use Rattle.std.proofs.lemmas.Result.{err_from_is_err_and}
use Rattle.std.specs.Prelude.{Result}
use Rattle.flagops_books.specs.Report.{replaces_at}
use Rattle.flagops_books.specs.Refusal.{GivesUnlessWant, Refused}
use Rattle.flagops_books.proofs.Losing.{some_lost, unknown}
use Rattle.flagops_books.proofs.storing.check_losses.Goals as goal

pub returns-in_err-lost-clause-exact : goal.returns-in_err-lost-clause-exact
returns-in_err-lost-clause-exact g c =
    let old = g.F.FileSet.holding c.args.files.now in
    let refused = c.in_err-lost.field-0.0 in
    let p = err_from_is_err_and c.from_residual.result c.from_residual.ensures.1 in
    let is : c.from_residual.result ≡ Err refused = p.1 ∙ ap Err p.2 in
    subst (λ (r : Result (Unit {0}) Refused). IfSome old (λ at. GivesUnlessWant (λ u. u) r (replaces_at at c.args.path.now c.args.lossy c.args.new.now))) (sym is)
    (unknown old c.args.path.now c.args.new.now c.args.lossy c.if-lossy.false refused c.in_err-lost.ensures.exact)

pub returns-else-lost-eq0-clause-exact : goal.returns-else-lost-eq0-clause-exact
returns-else-lost-eq0-clause-exact g c =
    some_lost (g.F.FileSet.holding c.args.files.now) c.args.path.now c.args.new.now c.args.lossy c.if-lossy.false c.in_ok-lost.lost c.would_lose.result c.in_ok-lost.ensures.exact c.if-lost-eq0.false c.would_lose.ensures.refusal
