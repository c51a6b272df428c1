use Rattle.std.proofs.Common.{codes, sym}
use Rattle.flag_text.proofs.Halving.{names_rise-whole}
use Rattle.flag_text.specs.View.{members_view}
use Rattle.flag_defs.proofs.Lawful.{whole_variants}
use Rattle.flag_defs.proofs.Outlines.{found, lawful_variants}
use Rattle.flag_defs.proofs.definition_error.outline_error.Goals as goal

pub default_variant-requires-clause-variants : goal.default_variant-requires-clause-variants
default_variant-requires-clause-variants c =
    let vs = members_view c.in-Some.variants.now in
    names_rise-whole vs (whole_variants vs (lawful_variants (found (codes "variants") (members_view c.args.members.now)) vs (sym c.in-Some.ensures)))
