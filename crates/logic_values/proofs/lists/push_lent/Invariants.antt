use Rattle.std.proofs.Common.{◌≡◌, ◌++◌, drop, map}
use Rattle.flag_text.specs.View.{view}
use Rattle.logic_values.specs.Views.{value_view}
use Rattle.logic_values.proofs.lists.push_lent.Given as goal

abbrev pub invariant-loop-part : goal.invariant-loop-part
invariant-loop-part l = map value_view l.items.items ++ map view (drop l.part-index l.parts) ≡ map value_view l.initial.items.items ++ map view l.parts
