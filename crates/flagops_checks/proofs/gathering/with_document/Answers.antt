use Rattle.std.proofs.Common.{◌≡◌, ◌∙◌, Err, IfSome, ap, sym, subst, List, ℕ}
use Rattle.std.proofs.lemmas.Result.{err_from_is_err_and}
use Rattle.std.specs.Prelude.{Result}
use Rattle.flag_defs.specs.Flags.{flags_view}
use Rattle.flagops_checks.specs.Documents.{IsCheckedAt}
use Rattle.flagops_checks.specs.Judged.{checked}
use Rattle.flagops_checks.specs.Step.{Adds, GivesNext}
use Rattle.flagops_checks.specs.declared.gathering.Gathered.{Gathered}
use Rattle.flagops_checks.proofs.Following.{next_found, next_refused}
use Rattle.flagops_checks.specs.Refusal.{Refused}
use Rattle.flagops_checks.proofs.gathering.with_document.Goals as goal

pub returns-in_err-bytes-clause-exact : goal.returns-in_err-bytes-clause-exact
returns-in_err-bytes-clause-exact g c =
    let h = g.F.FileSet.holding c.args.files.now in
    let refused = c.in_err-bytes.field-0.0 in
    let p = err_from_is_err_and c.from_residual.result c.from_residual.ensures.1 in
    let is : c.from_residual.result ≡ Err refused = p.1 ∙ ap Err p.2 in
    subst (λ (r : Result Gathered Refused). IfSome h (λ at. GivesNext c.args.form c.args.all r (IsCheckedAt c.args.form.floats at c.args.path.now))) (sym is)
    (next_refused c.args.form c.args.all c.args.path.now h refused c.in_err-bytes.ensures.exact)

pub returns-in-Ok-clause-exact : goal.returns-in-Ok-clause-exact
returns-in-Ok-clause-exact g c =
    let flags = flags_view c.in_ok-bytes.field-0.flags in
    let adds = subst (λ (b : List ℕ). Adds c.args.form (checked c.args.form.floats c.args.path.now b flags) c.args.all c.in-Ok.next) c.as_slice.ensures.value c.in-Ok.ensures in
    next_found c.args.form c.args.all c.args.path.now (g.F.FileSet.holding c.args.files.now) c.in_ok-bytes.field-0.bytes.items flags c.in-Ok.next c.in_ok-bytes.ensures.exact c.in_ok-bytes.ensures.bytes adds
