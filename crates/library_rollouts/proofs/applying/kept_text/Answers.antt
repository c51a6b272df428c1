use Rattle.flag_defs.specs.Flags.{flags_view}
use Rattle.library_rollouts.proofs.Kept.{not_text}
use Rattle.library_rollouts.proofs.applying.kept_text.Goals as goal

pub returns-in-Err-clause-refused : goal.returns-in-Err-clause-refused
returns-in-Err-clause-refused c = not_text c.args.document.now (flags_view c.args.flags.now) c.args.key.now c.args.site c.args.rule.now (flags_view c.args.wanted.now) c.in-Err.ensures.cases.0
