use Rattle.std.proofs.Common.{ap, ◌∙◌}
use Rattle.std.proofs.lemmas.Result.{IfOk-weaker}
use Rattle.flag_defs.specs.Floats.{entries_floats}
use Rattle.flag_defs.proofs.flags.Flags.make.Goals as goal

pub returns-clause-floats : goal.returns-clause-floats
returns-clause-floats c = IfOk-weaker c.limited.result _ _ (λ fs same. ap entries_floats same ∙ c.in_ok-sort_entries.ensures.floats) c.limited.ensures.same
