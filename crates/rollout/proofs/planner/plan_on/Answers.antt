-- What is solved is spent, whatever comes after.
use Rattle.std.proofs.Common.{inr, ◌∙◌, rules, subst}
use Rattle.std.specs.List.{slice_index}
use Rattle.transport_core.specs.Groups.{AreSizesBy}
use Rattle.rollout.specs.Lawful.{problem_view}
use Rattle.rollout.proofs.Effort.{bounded}
use Rattle.rollout.proofs.planner.plan_on.Goals as goal

pub answer-requires-clause-instance : goal.answer-requires-clause-instance
answer-requires-clause-instance g c =
    let made = c.in_ok-instance.ensures in
    record {
      loads = subst (λ xs. AreSizesBy c.args.problem.now.old (slice_index xs) c.in_ok-instance.instance.groups) c.as_slice-counts.ensures.value made.loads;
      groups = λ inputs counted. made.groups inputs (c.as_slice-counts.ensures.value ∙ counted);
      limits = made.limits;
      pricing = search rules;
    }

pub returns-in_err-solved-clause-spent : goal.returns-in_err-solved-clause-spent
returns-in_err-solved-clause-spent g c = λ inputs counted.
    inr
    (bounded (problem_view c.args.problem.now inputs) c.in_ok-instance.instance c.args.effort.now c.solve.new.effort (c.in_ok-instance.ensures.groups inputs (c.as_slice-counts.ensures.value ∙ counted)) c.in_ok-instance.ensures.limits c.solve.ensures.augmentations c.solve.ensures.settlings)

pub returns-in_err-answer-clause-spent : goal.returns-in_err-answer-clause-spent
returns-in_err-answer-clause-spent g c = λ inputs counted.
    inr
    (bounded (problem_view c.args.problem.now inputs) c.in_ok-instance.instance c.args.effort.now c.solve.new.effort (c.in_ok-instance.ensures.groups inputs (c.as_slice-counts.ensures.value ∙ counted)) c.in_ok-instance.ensures.limits c.solve.ensures.augmentations c.solve.ensures.settlings)

pub returns-clause-spent : goal.returns-clause-spent
returns-clause-spent g c = λ inputs counted.
    inr
    (bounded (problem_view c.args.problem.now inputs) c.in_ok-instance.instance c.args.effort.now c.solve.new.effort (c.in_ok-instance.ensures.groups inputs (c.as_slice-counts.ensures.value ∙ counted)) c.in_ok-instance.ensures.limits c.solve.ensures.augmentations c.solve.ensures.settlings)
