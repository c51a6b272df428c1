use Rattle.std.proofs.Common.{◌≡◌, ◌∙◌, Err, ap, inl, map, rules, sym}
use Rattle.flagops_files.specs.Question.{question_view}
use Rattle.plan_text.specs.Answer.{planned_view}
use Rattle.ramp.specs.Steps.{requests_view, steps_of}
use Rattle.flagops_ramps.specs.Words.{keeping_view}
use Rattle.flagops_ramps.proofs.Kept.{failed_once, kept_once, left_once, of_both, of_no_steps, of_none}
use Rattle.flagops_ramps.proofs.Noted.{keep_said_from, nothing_said}
use Rattle.flagops_ramps.proofs.keeping.against.Goals as goal
use Rattle.flagops_ramps.proofs.Firsts.{answers_were_read, made, told_as}
use Rattle.flagops_ramps.specs.Diagnostics.{IsOfAnswers, IsOfKeep}
use Rattle.flagops_ramps.specs.Attempts.{answers_file}
use Rattle.flagops_ramps.specs.Ramp.{of_steps}
use Rattle.flagops_ramps.specs.Remarks.{TellsKeepFrom}
use Rattle.flagops_ramps.proofs.Diagnosed.{keep_answers, keep_steps}
use Rattle.std.specs.Prelude.{Result}
use Rattle.flagops_ramps.specs.Report.{Told}
use Rattle.flagops_shell.specs.declared.outcome.Outcome.{Outcome}

pub returns-in-Ok-clause-exact : goal.returns-in-Ok-clause-exact
returns-in-Ok-clause-exact g c =
    let over = rw (c.as_slice-in-Ok.ensures.value, c.as_slice.ensures.value) at c.over.ensures.exact in
    of_both (keeping_view c.args.asked.now) c.args.question.document.items (question_view c.args.question) (g.F.FileSet.holding c.args.files.now) (g.F.FileSet.holding c.load_ramp.new.files) _ (map planned_view c.in_ok-answers.answers.items)
    (requests_view c.in-Ok.steps.items) c.over.result c.load_ramp.ensures.kept c.in_ok-answers.ensures.exact (ap steps_of (sym c.bytes.ensures) ∙ c.in-Ok.ensures.exact) over

pub returns-in-Ok-clause-failed : goal.returns-in-Ok-clause-failed
returns-in-Ok-clause-failed g c = failed_once _ _ _ _ c.in_ok-answers.ensures.failed c.over.ensures.failed

pub returns-in-Ok-clause-left : goal.returns-in-Ok-clause-left
returns-in-Ok-clause-left g c = left_once _ _ _ c.args.asked.now.answered.rollout.document.now c.args.asked.now.write c.load_ramp.ensures.kept c.over.ensures.left

pub returns-in-Ok-clause-kept : goal.returns-in-Ok-clause-kept
returns-in-Ok-clause-kept g c = kept_once _ _ _ _ c.load_ramp.ensures.kept c.over.ensures.kept

pub returns-in-Err-clause-exact : goal.returns-in-Err-clause-exact
returns-in-Err-clause-exact g c =
    of_no_steps (keeping_view c.args.asked.now) c.args.question.document.items (question_view c.args.question) (g.F.FileSet.holding c.args.files.now) (g.F.FileSet.holding c.load_ramp.new.files) (map planned_view c.in_ok-answers.answers.items)
    c.in-Err.fault c.steps_refused.result c.load_ramp.ensures.kept c.in_ok-answers.ensures.exact c.steps_refused.ensures.refusal (λ other. ap steps_of (sym c.bytes.ensures) ∙ c.in-Err.ensures.exact other)

pub returns-in-Err-clause-left : goal.returns-in-Err-clause-left
returns-in-Err-clause-left g c = inl c.load_ramp.ensures.kept

pub returns-in-Err-clause-kept : goal.returns-in-Err-clause-kept
returns-in-Err-clause-kept g c = inl c.load_ramp.ensures.kept

pub returns-in_err-answers-clause-exact : goal.returns-in_err-answers-clause-exact
returns-in_err-answers-clause-exact g c =
    let is : c.from_residual.result ≡ Err c.in_err-answers.field-0.0 = search rules in
    of_none (keeping_view c.args.asked.now) c.args.question.document.items (question_view c.args.question) (g.F.FileSet.holding c.args.files.now) (g.F.FileSet.holding c.load_ramp.new.files) c.in_err-answers.field-0.0 c.from_residual.result is
    c.load_ramp.ensures.kept c.in_err-answers.ensures.exact

pub returns-in_err-answers-clause-left : goal.returns-in_err-answers-clause-left
returns-in_err-answers-clause-left g c = inl c.load_ramp.ensures.kept

pub returns-in_err-answers-clause-kept : goal.returns-in_err-answers-clause-kept
returns-in_err-answers-clause-kept g c = inl c.load_ramp.ensures.kept

pub returns-in-Ok-clause-names : goal.returns-in-Ok-clause-names
returns-in-Ok-clause-names g c =
    let k = keeping_view c.args.asked.now in
    let path = k.answered.ramp in
    made (IsOfKeep k) c.over.result (g.F.FileSet.holding c.args.files.now) (λ at. answers_file at path) (answers_were_read path (map planned_view c.in_ok-answers.answers.items) (g.F.FileSet.holding c.args.files.now) c.in_ok-answers.ensures.exact) c.over.ensures.names

pub returns-in-Err-clause-names : goal.returns-in-Err-clause-names
returns-in-Err-clause-names g c =
    let k = keeping_view c.args.asked.now in
    let path = k.answered.ramp in
    made (IsOfKeep k) (let r : Result Outcome Told = Err c.steps_refused.result in r) (g.F.FileSet.holding c.args.files.now) (λ at. answers_file at path) (answers_were_read path (map planned_view c.in_ok-answers.answers.items) (g.F.FileSet.holding c.args.files.now) c.in_ok-answers.ensures.exact)
    (λ wanted. keep_steps k c.steps_refused.result (of_steps c.in-Err.fault) c.steps_refused.ensures.refusal c.steps_refused.ensures.names)

pub returns-in_err-answers-clause-names : goal.returns-in_err-answers-clause-names
returns-in_err-answers-clause-names g c =
    let k = keeping_view c.args.asked.now in
    let path = k.answered.ramp in
    let is : c.from_residual.result ≡ Err c.in_err-answers.field-0.0 = search rules in
    told_as (IsOfKeep k) c.from_residual.result (IsOfAnswers path) (g.F.FileSet.holding c.args.files.now) (λ at. answers_file at path) c.in_err-answers.field-0.0 is (keep_answers k) c.in_err-answers.ensures.names

pub returns-in-Ok-clause-parts : goal.returns-in-Ok-clause-parts
returns-in-Ok-clause-parts g c =
    let tells = rw (c.as_slice-in-Ok.ensures.value, c.as_slice.ensures.value) at c.over.ensures.parts in
    keep_said_from (keeping_view c.args.asked.now) (question_view c.args.question) (g.F.FileSet.holding c.args.files.now) (requests_view c.in-Ok.steps.items) (map planned_view c.in_ok-answers.answers.items) c.over.result
    c.in_ok-answers.ensures.exact (ap steps_of (sym c.bytes.ensures) ∙ c.in-Ok.ensures.exact) tells

pub returns-in_err-answers-clause-parts : goal.returns-in_err-answers-clause-parts
returns-in_err-answers-clause-parts g c =
    let is : c.from_residual.result ≡ Err c.in_err-answers.field-0.0 = search rules in
    nothing_said (λ at o. TellsKeepFrom at (keeping_view c.args.asked.now) (question_view c.args.question) o.remark) (g.F.FileSet.holding c.args.files.now) c.in_err-answers.field-0.0 c.from_residual.result is
