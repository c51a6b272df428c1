use Rattle.flag_defs.specs.Flags.{flags_view}
use Rattle.flagops_rollouts.proofs.Edited.{not_text}
use Rattle.flagops_rollouts.proofs.kept.kept_text.Goals as goal

pub returns-in-Err-clause-refused : goal.returns-in-Err-clause-refused
returns-in-Err-clause-refused c = not_text c.args.floats c.args.bytes.now (flags_view c.args.flags.now) c.args.key.now c.args.site c.args.rule.now (flags_view c.args.wanted.now) c.in-Err.ensures.cases.0
