use Rattle.std.proofs.Common.{◌≡◌, ◌∙◌, IfSome, Result, Err, ap, sym, subst}
use Rattle.std.proofs.lemmas.Result.{err_from_is_err_and}
use Rattle.note_tallies.specs.Tally.{PageTally}
use Rattle.flagops_filters.specs.Joined.{JoinsNext, JoinsUnless}
use Rattle.flagops_filters.specs.Report.{Told}
use Rattle.flagops_filters.proofs.Joins.{next_joined, next_refused}
use Rattle.flagops_filters.proofs.joining.with_next.Goals as goal

pub returns-in_err-next-clause-exact : goal.returns-in_err-next-clause-exact
returns-in_err-next-clause-exact g c =
    let h = g.F.FileSet.holding c.args.files.now in
    let told = c.in_err-next.field-0.0 in
    let p = err_from_is_err_and c.from_residual.result c.from_residual.ensures.1 in
    let is : c.from_residual.result ≡ Err told = p.1 ∙ ap Err p.2 in
    subst (λ (r : Result PageTally Told). IfSome h (λ at. JoinsUnless r (JoinsNext at c.args.one c.args.path.now))) (sym is) (next_refused c.args.one c.args.path.now h told c.in_err-next.ensures.exact)

pub returns-clause-exact : goal.returns-clause-exact
returns-clause-exact g c = next_joined c.args.one c.args.path.now (g.F.FileSet.holding c.args.files.now) c.in_ok-next.next c.both_of.result c.in_ok-next.ensures.exact c.both_of.ensures.exact
