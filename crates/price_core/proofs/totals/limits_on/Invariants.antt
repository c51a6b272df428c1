use Rattle.std.proofs.Common.{◌≡◌, ◌≤◌, ◌++◌, length, map, drop, string_bytes}
use Rattle.price_core.specs.Limits.{limits_view}
use Rattle.price_core.specs.Request.{limits_on}
use Rattle.price_core.proofs.Limited.{named_limits}
use Rattle.price_core.proofs.totals.limits_on.Given as goal

abbrev pub invariant-loop-left : goal.invariant-loop-left
invariant-loop-left l = record {
  inside : l.left ≤ length l.names;
  made : named_limits l.by_name.entries ≡ limits_on (limits_view l.asked) (map string_bytes (drop l.left l.names));
}

abbrev pub decreases-loop-left : goal.decreases-loop-left
decreases-loop-left l = l.left

abbrev pub invariant-loop-name : goal.invariant-loop-name
invariant-loop-name l =
    goal.iterator-loop-name.can_next l.name-iterator ×
    goal.iterator-loop-name.is_finite l.name-iterator ×
    (limits_view l.limits.items ++ named_limits l.name-iterator ≡ named_limits l.initial.name-iterator)
