use Rattle.ofrep_guards.proofs.Types.{same_name}
use Rattle.ofrep_guards.proofs.hosts.is_same_host.Goals as goal

pub returns : goal.returns
returns c = same_name c.eq_ignore_ascii_case.result c.args.host.now c.args.name.now c.eq_ignore_ascii_case.ensures.test
