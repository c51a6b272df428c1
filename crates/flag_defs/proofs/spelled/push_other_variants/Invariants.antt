use Rattle.std.proofs.Common.{◌≡◌, ◌++◌, drop, string_bytes}
use Rattle.flag_text.specs.View.{members_view}
use Rattle.flag_defs.specs.Spelled.{others_spelled}
use Rattle.flag_defs.proofs.spelled.push_other_variants.Given as goal

abbrev pub invariant-loop-variant : goal.invariant-loop-variant
invariant-loop-variant l =
    string_bytes l.out ++ others_spelled l.floats (members_view (drop l.variant-index l.variants)) ≡ string_bytes l.initial.out ++ others_spelled l.floats (members_view l.variants)
