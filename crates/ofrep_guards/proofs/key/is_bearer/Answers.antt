use Rattle.std.proofs.Common.{codes}
use Rattle.ofrep_guards.proofs.Types.{same_name}
use Rattle.ofrep_guards.proofs.key.is_bearer.Goals as goal

pub returns : goal.returns
returns c = same_name c.eq_ignore_ascii_case.result c.args.scheme.now (codes "bearer ") c.eq_ignore_ascii_case.ensures.test
