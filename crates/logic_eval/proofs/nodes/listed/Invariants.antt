use Rattle.std.proofs.Common.{◌≡◌, ◌++◌, map}
use Rattle.logic_values.specs.Views.{value_view}
use Rattle.logic_eval.proofs.nodes.listed.Given as goal

abbrev pub invariant-loop-value : goal.invariant-loop-value
invariant-loop-value l = map value_view l.items.items ++ map value_view l.value-iterator ≡ map value_view l.fn.values.items
