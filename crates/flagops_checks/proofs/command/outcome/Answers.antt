use Rattle.std.proofs.Common.{◌≡◌, ◌∙◌, Err, IfSome, Ok, ap, subst, sym}
use Rattle.std.proofs.lemmas.Result.{err_from_is_err_and}
use Rattle.std.specs.Prelude.{Result}
use Rattle.flagops_checks.specs.Report.{IsCheckReport}
use Rattle.flagops_checks.specs.Words.{checking_view}
use Rattle.flagops_checks.specs.Refusal.{GivesOne, Refused}
use Rattle.flagops_shell.specs.Report.{outcome_view}
use Rattle.flagops_shell.specs.declared.outcome.Outcome.{Outcome}
use Rattle.flagops_checks.proofs.Ending.{a_remark, a_report, given, no_report}
use Rattle.flagops_checks.proofs.command.outcome.Goals as goal

pub returns-in_err-gathered-clause-exact : goal.returns-in_err-gathered-clause-exact
returns-in_err-gathered-clause-exact g c =
    let asked = checking_view c.args.asked.now in
    let h = g.F.FileSet.holding c.args.files.now in
    let refused = c.in_err-gathered.field-0.0 in
    let p = err_from_is_err_and c.from_residual.result c.from_residual.ensures.1 in
    let is : c.from_residual.result ≡ Err refused = p.1 ∙ ap Err p.2 in
    let gives = given c.args.asked.now (Err refused) h c.as_slice-paths.result.now c.of.result c.as_slice-paths.ensures.value c.of.ensures c.in_err-gathered.ensures.exact in
    subst (λ (r : Result Outcome Refused). IfSome h (λ at. GivesOne outcome_view r (IsCheckReport at asked))) (sym is) (no_report asked h refused gives)

pub returns-clause-exact : goal.returns-clause-exact
returns-clause-exact g c =
    let asked = checking_view c.args.asked.now in
    let h = g.F.FileSet.holding c.args.files.now in
    a_report asked c.in_ok-gathered.gathered (outcome_view c.ended.result) c.ended.ensures.view h
    (given c.args.asked.now (Ok c.in_ok-gathered.gathered) h c.as_slice-paths.result.now c.of.result c.as_slice-paths.ensures.value c.of.ensures c.in_ok-gathered.ensures.exact)

pub returns-clause-notes : goal.returns-clause-notes
returns-clause-notes g c =
    let asked = checking_view c.args.asked.now in
    let h = g.F.FileSet.holding c.args.files.now in
    a_remark asked c.in_ok-gathered.gathered h c.ended.result.remark c.ended.ensures.remark
    (given c.args.asked.now (Ok c.in_ok-gathered.gathered) h c.as_slice-paths.result.now c.of.result c.as_slice-paths.ensures.value c.of.ensures c.in_ok-gathered.ensures.exact)
