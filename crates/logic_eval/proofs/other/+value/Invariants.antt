use Rattle.std.proofs.Common.{◌≡◌, drop, map}
use Rattle.flag_text.specs.Shape.{items_have_other}
use Rattle.flag_text.specs.View.{items_of}
use Rattle.logic_values.specs.Views.{value_view}
use Rattle.logic_eval.proofs.other.+value.Given as goal

abbrev pub invariant-values_have_other-loop-value : goal.invariant-values_have_other-loop-value
invariant-values_have_other-loop-value l = items_have_other (items_of (map value_view l.value-items)) ≡ items_have_other (items_of (map value_view (drop l.value-index l.value-items)))
