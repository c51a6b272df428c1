use Rattle.std.proofs.Common.{Err, Global, List, Ok, Option, Vec, map, option_map, subst, ℕ}
use Rattle.flag_defs.specs.Flags.{flags_view}
use Rattle.flagops_files.specs.Question.{question_view}
use Rattle.plan_text.specs.Answer.{planned_view}
use Rattle.plan_text.specs.declared.planned.Planned.{Planned}
use Rattle.ramp.specs.Right.{IsTold}
use Rattle.ramp.specs.Steps.{requests_view}
use Rattle.flagops_ramps.specs.Ramp.{recorded}
use Rattle.flagops_ramps.proofs.Stepped.{found_right, found_wrong}
use Rattle.flagops_ramps.proofs.judging.over.Goals as goal

pub returns-in-Ok-verified_on-clause-exact : goal.returns-in-Ok-verified_on-clause-exact
returns-in-Ok-verified_on-clause-exact g c =
    let a = c.args.asked.now.rollout in
    found_right (option_map (λ m. m.number) a.refine) (question_view c.args.question) c.count.new.question (requests_view c.args.steps.items) (map planned_view c.args.answers.items) c.count.ensures.kept
    (rw (c.as_slice-2.ensures.value, c.as_slice-3.ensures.value, c.factor_number.ensures.value) at c.in-Ok-verified_on.ensures)

pub returns-in-Ok-verified_on-clause-right : goal.returns-in-Ok-verified_on-clause-right
returns-in-Ok-verified_on-clause-right g c = record {
  few = c.requires;
  right = rw (c.as_slice-2.ensures.value, c.as_slice-3.ensures.value, c.factor_number.ensures.value) at c.in-Ok-verified_on.ensures;
}

pub returns-in-Err-clause-exact : goal.returns-in-Err-clause-exact
returns-in-Err-clause-exact g c =
    let refine = option_map (λ m. m.number) c.args.asked.now.rollout.refine in
    let made = c.count.new.question in
    let flags = flags_view made.flags in
    let requests = requests_view c.args.steps.items in
    let answers = map planned_view c.args.answers.items in
    let fault = c.in-Err.fault in
    let one = subst (λ (f : Option ℕ). IsTold (Ok flags) f (requests_view c.as_slice-2.result.now) (recorded made.evidence) (map planned_view c.as_slice-3.result.now) (Err fault)) c.factor_number.ensures.value c.in-Err.ensures in
    let two = subst (λ (s : List (Vec ℕ Global)). IsTold (Ok flags) refine (requests_view s) (recorded made.evidence) (map planned_view c.as_slice-3.result.now) (Err fault)) c.as_slice-2.ensures.value one in
    let told = subst (λ (s : List Planned). IsTold (Ok flags) refine requests (recorded made.evidence) (map planned_view s) (Err fault)) c.as_slice-3.ensures.value two in
    found_wrong refine (question_view c.args.question) made requests answers fault c.wrong.result c.count.ensures.kept told c.wrong.ensures.refusal
