use Rattle.flag_defs.specs.Flags.{flags_view}
use Rattle.rollout.specs.CheckedTally.{tally_view}
use Rattle.rollout.specs.declared.refining.Refining.TheVariants.{Times}
use Rattle.rollout.proofs.Bounded.{tally_small}
use Rattle.rollout.proofs.tallied.plan_asked.Goals as goal

pub plan_on-requires-clause-plannable : goal.plan_on-requires-clause-plannable
plan_on-requires-clause-plannable g c =
    let small = tally_small (Times c.args.m) (flags_view c.args.flags.now) c.args.request.now c.args.tally.now (tally_view c.in_ok-problem.problem) c.len-count.ensures.lawful c.in_ok-problem.ensures.exact in
    record { small = small.small; few = small.few; listed = small.listed; met = small.met }
