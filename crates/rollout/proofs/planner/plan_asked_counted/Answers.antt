use Rattle.std.proofs.Common.{arith}
use Rattle.bucket_core.specs.Rule.{total_weight}
use Rattle.flag_defs.specs.Flags.{flags_view}
use Rattle.rollout.specs.Lawful.{problem_asked, problem_view}
use Rattle.rollout.specs.declared.refining.Refining.TheVariants.{Times}
use Rattle.transport_core.proofs.Costs.{tally_of}
use Rattle.rollout.proofs.Bounded.{lawful_small}
use Rattle.rollout.proofs.Effort.{spends_none, spends_of}
use Rattle.rollout.proofs.planner.plan_asked_counted.Goals as goal

pub plan_on-requires-clause-plannable : goal.plan_on-requires-clause-plannable
plan_on-requires-clause-plannable g c =
    let small = lawful_small (Times c.args.m) (flags_view c.args.flags.now) c.args.request.now (g.B.Recorded.contents c.args.book.now) (problem_view c.in_ok-problem.problem c.in_ok-problem.ensures.inputs) c.len-count.ensures.lawful c.in_ok-problem.ensures.is in
    record { small = small.small; few = small.few; listed = small.listed; met = small.met }

pub plan_on-requires-clause-tally : goal.plan_on-requires-clause-tally
plan_on-requires-clause-tally g c =
    let posed = c.in_ok-problem.ensures in
    tally_of posed.inputs (total_weight c.in_ok-problem.problem.old) c.in_ok-problem.problem.counts.items posed.counted (omega (arith, posed.few))

pub returns-in_err-problem-clause-spent : goal.returns-in_err-problem-clause-spent
returns-in_err-problem-clause-spent g c = spends_none (problem_asked (Times c.args.m) (flags_view c.args.flags.now) c.args.request.now (g.B.Recorded.contents c.args.book.now)) c.args.effort.now

pub returns-clause-spent : goal.returns-clause-spent
returns-clause-spent g c =
    spends_of (problem_asked (Times c.args.m) (flags_view c.args.flags.now) c.args.request.now (g.B.Recorded.contents c.args.book.now)) (problem_view c.in_ok-problem.problem c.in_ok-problem.ensures.inputs) c.args.effort.now c.plan_on.new.effort
    c.in_ok-problem.ensures.is (c.plan_on.ensures.spent c.in_ok-problem.ensures.inputs c.in_ok-problem.ensures.counted)
