use Rattle.std.proofs.Common.{ap, ◌∙◌, arith}
use Rattle.std.proofs.lemmas.List.{take_all}
use Rattle.flag_defs.specs.Flag.{entries_view}
use Rattle.flag_defs.specs.Floats.{entries_floats}
use Rattle.flag_defs.proofs.copy.copy_entries.Goals as goal

pub returns-clause-value : goal.returns-clause-value
returns-clause-value c = c.loop-key.invariant.0 ∙ ap entries_view (take_all c.loop-key.key-index c.args.flags.now (omega arith))

pub returns-clause-floats : goal.returns-clause-floats
returns-clause-floats c = c.loop-key.invariant.1 ∙ ap entries_floats (take_all c.loop-key.key-index c.args.flags.now (omega arith))
