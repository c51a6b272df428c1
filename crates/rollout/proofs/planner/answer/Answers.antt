-- What is solved of the instance is an answer to the problem.
use Rattle.std.proofs.Common.{refl, ◌∙◌, subst, arith}
use Rattle.bucket_core.specs.Rule.{IsRuleTotal, names_view}
use Rattle.plan_text.proofs.WholeAnswers.{emit_whole, none_whole}
use Rattle.transport_core.specs.Certificate.{certificate_view}
use Rattle.rollout.specs.Lawful.{problem_view}
use Rattle.rollout.proofs.Plans.{deficient_of, emit_plan, none_plan, solved_plan, under_last_of}
use Rattle.rollout.proofs.planner.answer.Goals as goal

pub returns-in_ok-rule-in-Plan-clause-plan : goal.returns-in_ok-rule-in-Plan-clause-plan
returns-in_ok-rule-in-Plan-clause-plan c = λ inputs counted.
    let p = problem_view c.args.problem.now inputs in
    let rule = c.in_ok-rule-in-Plan.rule in
    let certificate = c.in-Plan.certificate in
    let proved = solved_plan p c.args.instance.now c.in-Plan.assignment certificate rule (c.requires.instance.groups inputs counted) c.requires.instance.limits c.requires.instance.pricing (rw c.in-Plan.is at c.requires.solved.least) (c.in_ok-rule-in-Plan.ensures.assigned inputs (c.as_slice-counts.ensures.value ∙ counted)) in
    emit_plan p p.pricing rule (certificate_view certificate) (omega (arith, c.total-weight.ensures.value, c.total-weight.ensures.allowed.some)) c.entries-limits.ensures.lawful refl proved.0 proved.1

pub returns-in_ok-rule-in-Plan-clause-whole : goal.returns-in_ok-rule-in-Plan-clause-whole
returns-in_ok-rule-in-Plan-clause-whole c =
    emit_whole c.in_ok-rule-in-Plan.rule (certificate_view c.in-Plan.certificate) (subst IsRuleTotal c.total-total.ensures.value c.total-total.ensures.allowed) (rw c.in-Plan.is at c.requires.solved.whole)

pub returns-in-None-clause-plan : goal.returns-in-None-clause-plan
returns-in-None-clause-plan c = λ inputs counted.
    let p = problem_view c.args.problem.now inputs in
    let cut = c.in-None.cut in
    let deficient = deficient_of p c.args.instance.now cut (c.requires.instance.groups inputs counted) c.requires.instance.limits c.requires.instance.pricing (rw c.in-None.is at c.requires.solved.deficient) in
    let under = under_last_of p c.args.instance.now cut.kind (names_view cut.names.items) (c.requires.instance.groups inputs counted) c.requires.instance.limits c.requires.instance.pricing (rw c.in-None.is at c.requires.solved.under) in
    none_plan p cut.kind (names_view cut.names.items) (omega (arith, c.total-weight.ensures.value, c.total-weight.ensures.allowed.some)) c.entries-limits.ensures.lawful deficient under

pub returns-in-None-clause-whole : goal.returns-in-None-clause-whole
returns-in-None-clause-whole c = none_whole c.in-None.cut.kind (names_view c.in-None.cut.names.items)
