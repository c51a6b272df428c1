use Rattle.std.proofs.Common.{◌≡◌, drop, map}
use Rattle.std.specs.Int.{int_max}
use Rattle.logic_values.specs.Arithmetic.{folded}
use Rattle.logic_values.specs.Views.{value_view}
use Rattle.logic_values.proofs.arithmetic.largest.Given as goal

abbrev pub invariant-loop-value : goal.invariant-loop-value
invariant-loop-value l = folded int_max l.most (map value_view (drop l.value-index l.values)) ≡ folded int_max l.initial.most (map value_view l.values)
