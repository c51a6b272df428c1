use Rattle.std.proofs.Common.{◌≡◌, ◌++◌, length}
use Rattle.price_core.proofs.Order.{IsSorting}
use Rattle.price_core.proofs.change.once_each.Given as goal

abbrev pub invariant-loop-change : goal.invariant-loop-change
invariant-loop-change g l = IsSorting l.fn.entries.items l.entries.items l.by_change.entries

abbrev pub decreases-loop-change : goal.decreases-loop-change
decreases-loop-change g l = length l.entries.items

abbrev pub invariant-loop-entry : goal.invariant-loop-entry
invariant-loop-entry g l =
    (goal.iterator-loop-entry g).can_next l.entry-iterator ×
    (goal.iterator-loop-entry g).is_finite l.entry-iterator ×
    (l.ordered.items ++ l.entry-iterator ≡ l.initial.entry-iterator)
