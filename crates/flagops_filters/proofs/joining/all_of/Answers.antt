use Rattle.std.proofs.Common.{◌≡◌, ◌∷◌, ◌∙◌, IfSome, map, Result, Err, ap, sym, subst}
use Rattle.std.proofs.lemmas.Result.{err_from_is_err_and}
use Rattle.note_tallies.specs.Tally.{PageTally}
use Rattle.flagops_filters.specs.Join.{JoinsAllFiles}
use Rattle.flagops_filters.specs.Joined.{JoinsUnless}
use Rattle.flagops_filters.specs.Report.{Told}
use Rattle.flagops_filters.specs.Remarks.{RemarksUnjoinedOf}
use Rattle.flagops_filters.proofs.Joins.{from_first, from_first_named, no_first, no_first_named}
use Rattle.flagops_filters.proofs.joining.all_of.Goals as goal

pub returns-in_err-one-clause-exact : goal.returns-in_err-one-clause-exact
returns-in_err-one-clause-exact g c =
    let h = g.F.FileSet.holding c.args.files.now in
    let told = c.in_err-one.field-0.0 in
    let p = err_from_is_err_and c.from_residual.result c.from_residual.ensures.1 in
    let is : c.from_residual.result ≡ Err told = p.1 ∙ ap Err p.2 in
    subst (λ (r : Result PageTally Told). IfSome h (λ at. JoinsUnless r (JoinsAllFiles at (c.args.first.now ∷ map (λ p. p.now) c.args.others.now)))) (sym is)
    (no_first c.args.first.now (map (λ p. p.now) c.args.others.now) h told c.in_err-one.ensures.exact)

pub returns-clause-exact : goal.returns-clause-exact
returns-clause-exact g c =
    from_first c.args.first.now (map (λ p. p.now) c.args.others.now) (g.F.FileSet.holding c.args.files.now) (g.F.FileSet.holding c.one_of.new.files) c.in_ok-one.one c.all_with.result
    c.one_of.ensures.kept c.in_ok-one.ensures.exact c.all_with.ensures.exact

pub returns-in_err-one-clause-names : goal.returns-in_err-one-clause-names
returns-in_err-one-clause-names g c =
    let h = g.F.FileSet.holding c.args.files.now in
    let told = c.in_err-one.field-0.0 in
    let p = err_from_is_err_and c.from_residual.result c.from_residual.ensures.1 in
    let is : c.from_residual.result ≡ Err told = p.1 ∙ ap Err p.2 in
    let paths = map (λ p. p.now) c.args.others.now in
    subst (λ (r : Result PageTally Told). IfSome h (λ at. RemarksUnjoinedOf at (c.args.first.now ∷ paths) r)) (sym is)
    (no_first_named c.args.first.now paths h told c.in_err-one.ensures.exact c.in_err-one.ensures.names)

pub returns-clause-names : goal.returns-clause-names
returns-clause-names g c =
    from_first_named c.args.first.now (map (λ p. p.now) c.args.others.now) (g.F.FileSet.holding c.args.files.now) (g.F.FileSet.holding c.one_of.new.files) c.in_ok-one.one c.all_with.result
    c.one_of.ensures.kept c.in_ok-one.ensures.exact c.all_with.ensures.names
