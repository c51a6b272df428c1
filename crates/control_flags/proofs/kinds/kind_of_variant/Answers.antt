use Rattle.std.proofs.Common.{◌∙◌, ap}
use Rattle.std.specs.Prelude.{option_and_then}
use Rattle.flag_defs.specs.Kind.{kind_of}
use Rattle.control_flags.proofs.kinds.kind_of_variant.Goals as goal

pub returns-in-Some : goal.returns-in-Some
returns-in-Some c = c.of.ensures ∙ ap (option_and_then kind_of) c.in-Some.ensures.value

pub returns-in-None : goal.returns-in-None
returns-in-None c = ap (option_and_then kind_of) c.in-None.ensures.value
