use Rattle.std.proofs.Common.{◌≢◌, ℕ, Ok, Some, option_map, rules, sym, ap, ◌∙◌, subst, string_bytes}
use Rattle.flagops_files.specs.Question.{question_view}
use Rattle.flagops_shell.specs.Report.{outcome_view}
use Rattle.flagops_pictures.specs.Asked.{asked_on}
use Rattle.flagops_pictures.specs.Pictured.{IsDrawn}
use Rattle.flagops_pictures.proofs.Planned.{read_right, reads}
use Rattle.flagops_ramps.specs.Ramp.{recorded}
use Rattle.plan_text.specs.Answer.{planned_view}
use Rattle.plan_text.specs.PlanFile.{answer_of}
use Rattle.plan_text.specs.declared.fault.PlanFileFault.TheVariants.{WantOfMemory}
use Rattle.ramp.specs.Right.{IsStepShown}
use Rattle.rollout.specs.declared.refining.Refining.TheVariants.{Times}
use Rattle.flagops_pictures.proofs.planning.picture_drawn.Goals as goal

pub drawn-requires-clause-shown : goal.drawn-requires-clause-shown
drawn-requires-clause-shown g c =
    let q = question_view c.args.question.now in
    let refine = option_map (λ m. m.number) c.args.asked.now.refine in
    let answer = planned_view c.in-Ok.planned in
    let right = read_right c.args.asked.now.strict c.args.asked.now.explain refine q (outcome_view c.args.outcome.now) answer c.requires (ap answer_of (sym c.as_slice.ensures.value) ∙ c.in-Ok.ensures.exact) in
    λ κs within. rw (c.bytes.ensures) (subst (λ (m : ℕ). IsStepShown (Ok q.flags) (Some m) q.request (recorded q.evidence) answer) (sym c.factor_of.ensures.value) right)

pub returns : goal.returns
returns g c =
    let q = question_view c.args.question.now in
    let answer = planned_view c.in-Ok.planned in (
      answer,
      ap answer_of (sym c.as_slice.ensures.value) ∙ c.in-Ok.ensures.exact,
      subst (λ (m : ℕ). IsDrawn (asked_on (Times m) q.flags q.request (recorded q.evidence)) answer (string_bytes c.in_ok-text.text)) c.factor_of.ensures.value (rw c.bytes.ensures at c.in_ok-text.ensures),
    )

-- what is reported of a plan reads as one
pub unreachable-requires : goal.unreachable-requires
unreachable-requires g c =
    let q = question_view c.args.question.now in
    let refine = option_map (λ m. m.number) c.args.asked.now.refine in
    let other : c.in-Err.field-0 ≢ WantOfMemory = search rules in
    reads c.args.asked.now.strict c.args.asked.now.explain refine q (outcome_view c.args.outcome.now) c.in-Err.field-0 c.requires (ap answer_of (sym c.as_slice.ensures.value) ∙ c.in-Err.ensures.exact other)
