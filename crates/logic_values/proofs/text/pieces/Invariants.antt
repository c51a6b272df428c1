use Rattle.std.proofs.Common.{◌≡◌, ◌++◌, drop, map, flat_map, string_bytes}
use Rattle.logic_values.specs.Text.{piece}
use Rattle.logic_values.specs.Views.{value_view}
use Rattle.logic_values.proofs.text.pieces.Given as goal

abbrev pub invariant-loop-value : goal.invariant-loop-value
invariant-loop-value l = string_bytes l.text ++ flat_map piece (map value_view (drop l.value-index l.values)) ≡ flat_map piece (map value_view l.values)
