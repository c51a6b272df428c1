use Rattle.std.proofs.Common.{◌≡◌, ◌++◌, map}
use Rattle.logic_values.specs.Views.{value_view}
use Rattle.logic_values.proofs.lists.push_values.Given as goal

abbrev pub invariant-loop-part : goal.invariant-loop-part
invariant-loop-part l = map value_view l.items.items ++ map value_view l.part-iterator.rest.items ≡ map value_view l.initial.items.items ++ map value_view l.fn.parts.items
