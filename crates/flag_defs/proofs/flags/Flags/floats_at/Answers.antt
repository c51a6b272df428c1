use Rattle.std.proofs.Common.{Bool, false, Option, ap₂, ◌∙◌}
use Rattle.std.specs.Prelude.{option_and_then, unwrap_or}
use Rattle.flag_defs.specs.Definition.{Definition}
use Rattle.flag_defs.specs.Floats.{floats_kind}
use Rattle.flag_defs.proofs.flags.Flags.floats_at.Goals as goal

pub returns-in-Some : goal.returns-in-Some
returns-in-Some c = c.floats_kind.ensures ∙ ap₂ (λ (o : Option Definition) (b : Option Bool). option_and_then (λ d. floats_kind d (unwrap_or b false)) o) c.in-Some.ensures.value c.in-Some.ensures.floats
