-- What the program seeks among the results of a targeting.
use Rattle.std.specs.Prelude.{Bool}
use Rattle.flag_defs.specs.Definition.{Definition}
use Rattle.flag_doubts.specs.Doubts.{is_foreign, may_be_variant}
use Rattle.flag_doubts.specs.Outcomes.{Outcome}
use Rattle.flag_doubts.specs.declared.results.Sought.{Sought}
use Rattle.flag_doubts.specs.declared.results.Sought.TheVariants.{Foreign, Variant}

abbrev pub is_sought : Sought → Definition → Outcome → Bool
is_sought Foreign = is_foreign
is_sought Variant = may_be_variant
