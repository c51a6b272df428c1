use Rattle.ofrep_guards.proofs.Types.{same_name}
use Rattle.ofrep_guards.specs.Asked.{json_type}
use Rattle.ofrep_guards.proofs.media_type.is_json_name.Goals as goal

pub returns : goal.returns
returns c = same_name c.eq_ignore_ascii_case.result c.args.name.now json_type c.eq_ignore_ascii_case.ensures.test
