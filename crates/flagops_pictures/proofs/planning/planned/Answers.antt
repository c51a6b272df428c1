use Rattle.std.proofs.Common.{◌≡◌, Err, List, ℕ, inr, option_map, refl, rules, string_bytes, subst}
use Rattle.flagops_shell.specs.Files.{Stores}
use Rattle.flagops_files.specs.Question.{question_view}
use Rattle.flagops_shell.specs.Report.{outcome_view}
use Rattle.flagops_rollouts.specs.declared.refusal.RolloutCall.TheVariants as call
use Rattle.flagops_pictures.specs.Words.{planning_view}
use Rattle.flagops_pictures.proofs.Planned.{planned_with, status_of, unplanned, unwritten, want_alone}
use Rattle.flagops_pictures.proofs.planning.planned.Goals as goal

pub returns-clause-exact : goal.returns-clause-exact
returns-clause-exact g c =
    let a = c.args.asked.now in
    let old = g.F.FileSet.holding c.args.files.now in
    let new = g.F.FileSet.holding c.store.new.files in
    planned_with (planning_view a) (question_view c.args.question.now) old new c.in_ok-outcome.outcome (string_bytes c.in_ok-picture.picture) c.in_ok-outcome.ensures.exact c.in_ok-picture.ensures.exact
    (subst (λ (bytes : List ℕ). Stores old new a.picture.now bytes) c.as_bytes.ensures.value c.in_ok-store.ensures.stored) c.store.ensures.others

pub returns-in_err-outcome-clause-exact : goal.returns-in_err-outcome-clause-exact
returns-in_err-outcome-clause-exact g c =
    let a = c.args.asked.now in
    let old = g.F.FileSet.holding c.args.files.now in
    let is : c.from_residual.result ≡ Err c.in_err-outcome.field-0.0 = search rules in
    unplanned (planning_view a) (question_view c.args.question.now) old old c.in_err-outcome.field-0.0 c.from_residual.result is c.in_err-outcome.ensures.exact refl

pub returns-in_err-picture-clause-exact : goal.returns-in_err-picture-clause-exact
returns-in_err-picture-clause-exact g c =
    let a = c.args.asked.now in
    let old = g.F.FileSet.holding c.args.files.now in
    let e = c.in_err-picture.field-0.0 in
    let is : c.from_residual-in_err-picture.result ≡ Err c.in_err-picture.field-0.0 = search rules in
    unwritten (planning_view a) (question_view c.args.question.now) old old e c.from_residual-in_err-picture.result is (want_alone e.refusal call.Plan c.in_err-picture.ensures.wants) refl

pub returns-in_err-store-clause-exact : goal.returns-in_err-store-clause-exact
returns-in_err-store-clause-exact g c =
    let a = c.args.asked.now in
    let old = g.F.FileSet.holding c.args.files.now in
    let new = g.F.FileSet.holding c.store.new.files in
    let is : c.from_residual-in_err-store.result ≡ Err c.in_err-store.field-0.0 = search rules in
    unwritten (planning_view a) (question_view c.args.question.now) old new c.in_err-store.field-0.0 c.from_residual-in_err-store.result is c.in_err-store.ensures.fault c.in_err-store.ensures.refused

pub returns-clause-kept : goal.returns-clause-kept
returns-clause-kept g c =
    let a = c.args.asked.now in
    inr (status_of a.strict a.explain (option_map (λ m. m.number) a.refine) (question_view c.args.question.now) (outcome_view c.in_ok-outcome.outcome) c.in_ok-outcome.ensures.exact)
