use Rattle.rule_switches.proofs.Users.{tallied}
use Rattle.rule_switches.proofs.table_laws.tallies_tell_users.Goals as goal

pub returns : goal.returns
returns c = tallied
