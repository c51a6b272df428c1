use Rattle.std.proofs.Common.{◌≡◌, drop, map}
use Rattle.logic_eval.specs.Operators.{has_decimal}
use Rattle.logic_values.specs.Views.{value_view}
use Rattle.logic_eval.proofs.exact.has_decimal.Given as goal

abbrev pub invariant-loop-value : goal.invariant-loop-value
invariant-loop-value l = has_decimal (map value_view (drop l.value-index l.values)) ≡ has_decimal (map value_view l.values)
