use Rattle.rule_switches.proofs.Counts.{costs}
use Rattle.rule_switches.proofs.laws.switches_are_cost.Goals as goal

pub returns : goal.returns
returns c = costs
