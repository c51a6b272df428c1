use Rattle.std.specs.Prelude.{Result}
use Rattle.flagops_ramps.specs.Report.{Told}
use Rattle.flagops_ramps.specs.declared.judging.RightAnswers.{RightAnswers}
use Rattle.std.proofs.Common.{◌≡◌, ◌∙◌, Err, Ok, ap, false, map, option_map, refl, rules, subst, sym}
use Rattle.flagops_files.specs.Question.{question_view}
use Rattle.plan_text.specs.Answer.{planned_view}
use Rattle.ramp.specs.Steps.{requests_view, steps_of}
use Rattle.flagops_ramps.specs.Judging.{IsFoundOf}
use Rattle.flagops_ramps.specs.Ramp.{of_steps}
use Rattle.flagops_ramps.specs.Refusal.{is_want}
use Rattle.flagops_ramps.specs.declared.refusal.RampRefusal.{RampRefusal}
use Rattle.flagops_ramps.proofs.Loaded.{read_so, read_unfound, unread}
use Rattle.flagops_ramps.proofs.Stepped.{steps_found, steps_unfound}
use Rattle.flagops_ramps.proofs.judging.against.Goals as goal
use Rattle.flagops_ramps.proofs.Firsts.{answers_were_read, made, told_as}
use Rattle.flagops_ramps.specs.Diagnostics.{IsOfAnswers, IsOfVerify}
use Rattle.flagops_ramps.specs.Attempts.{answers_file}
use Rattle.flagops_ramps.proofs.Diagnosed.{of_answers, verify_steps}
use Rattle.flagops_ramps.specs.Words.{verifying_view}

pub returns-in-Ok-clause-exact : goal.returns-in-Ok-clause-exact
returns-in-Ok-clause-exact g c =
    let a = c.args.asked.now in
    let refine = option_map (λ m. m.number) a.rollout.refine in
    let answers = map planned_view c.in_ok-answers.answers.items in
    read_so (g.F.FileSet.holding c.args.files.now) a.ramp.now refine c.args.question answers c.over.result c.in_ok-answers.ensures.exact
    (steps_found refine (question_view c.args.question) (requests_view c.in-Ok.steps.items) answers c.over.result (ap steps_of (sym c.bytes.ensures) ∙ c.in-Ok.ensures.exact) c.over.ensures.exact)

pub returns-in-Err-clause-exact : goal.returns-in-Err-clause-exact
returns-in-Err-clause-exact g c =
    let a = c.args.asked.now in
    let refine = option_map (λ m. m.number) a.rollout.refine in
    let q = question_view c.args.question in
    let answers = map planned_view c.in_ok-answers.answers.items in
    let unfound = steps_unfound refine q answers c.in-Err.fault (of_steps c.in-Err.fault) refl (λ other. ap steps_of (sym c.bytes.ensures) ∙ c.in-Err.ensures.exact other) in
    read_unfound (g.F.FileSet.holding c.args.files.now) a.ramp.now refine c.args.question answers c.steps_refused.result.refusal c.in_ok-answers.ensures.exact
    (subst (λ (e : RampRefusal). is_want e ≡ false → IsFoundOf refine (Ok q) (Ok answers) (Err e)) (sym c.steps_refused.ensures.refusal) unfound)

pub returns-in_err-answers-clause-exact : goal.returns-in_err-answers-clause-exact
returns-in_err-answers-clause-exact g c =
    let a = c.args.asked.now in
    let is : c.from_residual.result ≡ Err c.in_err-answers.field-0.0 = search rules in
    rw is (unread (g.F.FileSet.holding c.args.files.now) a.ramp.now (option_map (λ m. m.number) a.rollout.refine) c.args.question c.in_err-answers.field-0.0 c.in_err-answers.ensures.exact)

pub returns-in-Ok-clause-names : goal.returns-in-Ok-clause-names
returns-in-Ok-clause-names g c =
    let v = verifying_view c.args.asked.now in
    made (IsOfVerify v) c.over.result (g.F.FileSet.holding c.args.files.now) (λ at. answers_file at v.ramp) (answers_were_read v.ramp (map planned_view c.in_ok-answers.answers.items) (g.F.FileSet.holding c.args.files.now) c.in_ok-answers.ensures.exact) c.over.ensures.names

pub returns-in-Err-clause-names : goal.returns-in-Err-clause-names
returns-in-Err-clause-names g c =
    let v = verifying_view c.args.asked.now in
    made (IsOfVerify v) (let r : Result RightAnswers Told = Err c.steps_refused.result in r) (g.F.FileSet.holding c.args.files.now) (λ at. answers_file at v.ramp) (answers_were_read v.ramp (map planned_view c.in_ok-answers.answers.items) (g.F.FileSet.holding c.args.files.now) c.in_ok-answers.ensures.exact)
    (λ wanted. verify_steps v c.steps_refused.result (of_steps c.in-Err.fault) c.steps_refused.ensures.refusal c.steps_refused.ensures.names)

pub returns-in_err-answers-clause-names : goal.returns-in_err-answers-clause-names
returns-in_err-answers-clause-names g c =
    let v = verifying_view c.args.asked.now in
    let is : c.from_residual.result ≡ Err c.in_err-answers.field-0.0 = search rules in
    told_as (IsOfVerify v) c.from_residual.result (IsOfAnswers v.ramp) (g.F.FileSet.holding c.args.files.now) (λ at. answers_file at v.ramp) c.in_err-answers.field-0.0 is (of_answers v) c.in_err-answers.ensures.names
