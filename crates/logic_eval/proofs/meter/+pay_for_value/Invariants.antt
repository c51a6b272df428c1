use Rattle.std.proofs.Common.{◌≡◌, drop, map}
use Rattle.flag_text.specs.View.{items_of}
use Rattle.logic_eval.specs.Budget.{paid}
use Rattle.logic_eval.specs.Run.{spends}
use Rattle.logic_eval.specs.Scope.{items_size}
use Rattle.logic_eval.specs.Views.{progress}
use Rattle.logic_values.specs.Views.{value_view}
use Rattle.logic_eval.proofs.meter.+pay_for_value.Given as goal

abbrev pub invariant-pay_for_values-loop-value : goal.invariant-pay_for_values-loop-value
invariant-pay_for_values-loop-value l =
    paid (progress l.fn.meter) (spends (items_size (items_of (map value_view l.value-items)))) ≡ paid (progress l.meter) (spends (items_size (items_of (map value_view (drop l.value-index l.value-items)))))
