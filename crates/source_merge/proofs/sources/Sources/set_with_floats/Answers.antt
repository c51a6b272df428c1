use Rattle.std.proofs.Common.{Some, ap, ◌∙◌}
use Rattle.flag_defs.specs.Flags.{flags_view}
use Rattle.flag_defs.specs.Floats.{Marks}
use Rattle.source_merge.specs.Floats.{sources_floats, with_marks}
use Rattle.source_merge.proofs.sources.Sources.set_with_floats.Goals as goal

pub returns-clause-floats : goal.returns-clause-floats
returns-clause-floats c = (
  flags_view c.in_ok-flags.flags,
  c.in_ok-flags.ensures.means,
  c.put.ensures.floats ∙ ap (λ (ms : Marks). with_marks c.args.name.now (Some ms) (sources_floats c.args.self.now)) c.in_ok-flags.ensures.floats,
)
