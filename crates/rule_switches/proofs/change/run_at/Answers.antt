use Rattle.std.proofs.Common.{◌-◌, arith}
use Rattle.rule_switches.proofs.Tallying.{part_few}
use Rattle.rule_switches.proofs.change.run_at.Goals as goal

pub inputs_on-requires : goal.inputs_on-requires
inputs_on-requires c = omega (arith, part_few c.args.counts.now c.args.point (c.min-end.result - c.args.point), c.requires.few)
