use Rattle.std.proofs.Common.{◌≢◌, rules}
use Rattle.flag_defs.specs.Flags.{flags_view}
use Rattle.rollout.specs.CheckedTally.{tally_problem_of}
use Rattle.rollout.specs.declared.fault.RolloutFault.TheVariants.{WantOfMemory}
use Rattle.rollout.specs.declared.refining.Refining.TheVariants.{Times}
use Rattle.control_answers.proofs.PlannedEffect.{not_refused}
use Rattle.control_answers.proofs.posing.posed.Goals as goal

-- what was planned is lawful
pub unreachable-requires : goal.unreachable-requires
unreachable-requires c =
    let other : c.in-Err.field-0 ≢ WantOfMemory = search rules in
    not_refused (tally_problem_of (Times 1) (flags_view c.args.flags.now) c.args.request.now c.args.tally.now) c.in-Err.field-0 c.args.planned.now c.in-Err.ensures.exact other c.requires
