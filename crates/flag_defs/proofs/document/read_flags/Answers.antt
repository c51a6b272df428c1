use Rattle.std.proofs.Common.{ap, ◌∙◌}
use Rattle.std.proofs.lemmas.Result.{IfOk-weaker}
use Rattle.flag_defs.specs.Floats.{are_unmarked, entries_floats}
use Rattle.flag_defs.proofs.document.read_flags.Goals as goal

pub returns-clause-floats : goal.returns-clause-floats
returns-clause-floats c = IfOk-weaker c.limited.result _ _ (λ fs same. ap (λ es. are_unmarked (entries_floats es)) same ∙ c.in_ok-flags.ensures.floats) c.limited.ensures.same
