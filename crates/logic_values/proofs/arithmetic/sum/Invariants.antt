use Rattle.std.proofs.Common.{◌≡◌, ◌+ℤ◌, drop, map}
use Rattle.logic_values.specs.Arithmetic.{folded}
use Rattle.logic_values.specs.Views.{value_view}
use Rattle.logic_values.proofs.arithmetic.sum.Given as goal

abbrev pub invariant-loop-value : goal.invariant-loop-value
invariant-loop-value l = folded ◌+ℤ◌ l.total (map value_view (drop l.value-index l.values)) ≡ folded ◌+ℤ◌ l.initial.total (map value_view l.values)
