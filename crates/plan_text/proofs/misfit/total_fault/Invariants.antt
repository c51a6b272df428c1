use Rattle.std.proofs.Common.{◌≡◌, ◌+◌, ◌<◌, ◌^◌, drop}
use Rattle.flag_text.specs.View.{items_view}
use Rattle.plan_text.specs.Misfit.{weights_of}
use Rattle.plan_text.proofs.misfit.total_fault.Given as goal

-- what was added and the weights of the rest are all
abbrev pub invariant-loop-item : goal.invariant-loop-item
invariant-loop-item l = record {
  sum : l.total + weights_of (items_view (drop l.item-index l.items)) ≡ weights_of (items_view l.items);
  small : l.total < 2 ^ 31;
}
