use Rattle.std.proofs.Common.{ℕ, List, Some, None, ◌∙◌, ap}
use Rattle.std.specs.Prelude.{option_and_then}
use Rattle.flag_defs.specs.Flag.{flag_view, variant_of, variants_in}
use Rattle.flag_defs.specs.Kind.{kind_of}
use Rattle.control_flags.proofs.First.{of_first}
use Rattle.control_flags.proofs.kinds.kind_of_first.Goals as goal

pub returns-in-Some : goal.returns-in-Some
returns-in-Some c =
    let d = flag_view c.args.flag.now in
    c.kind_of_variant.ensures ∙ ap (λ (name : List ℕ). option_and_then kind_of (variant_of name d)) c.as_str.ensures.value ∙ of_first (variants_in d) c.args.names.now (Some c.in-Some.name.now) c.in-Some.ensures.value c.requires.names

pub returns-in-None : goal.returns-in-None
returns-in-None c = of_first (variants_in (flag_view c.args.flag.now)) c.args.names.now None c.in-None.ensures.value c.requires.names
