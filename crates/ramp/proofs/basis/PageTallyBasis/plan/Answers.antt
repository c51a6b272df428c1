use Rattle.std.proofs.Common.{refl}
use Rattle.flag_defs.specs.Flags.{flags_view}
use Rattle.rollout.specs.CheckedTally.{tally_problem_of}
use Rattle.rollout.specs.declared.refining.Refining.TheVariants.{Times}
use Rattle.ramp.proofs.RampSteps.{tally_step}
use Rattle.ramp.proofs.basis.PageTallyBasis.plan.Goals as goal

pub returns-clause-exact : goal.returns-clause-exact
returns-clause-exact c =
    let flags = flags_view c.args.flags.now in
    let tally = c.args.self.now in
    tally_step flags c.requires.lawful c.args.m c.args.request.now tally (tally_problem_of (Times c.args.m) flags c.args.request.now tally) c.plan_tally.result refl c.plan_tally.ensures.exact
