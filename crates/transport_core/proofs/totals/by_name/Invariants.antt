use Rattle.std.proofs.Common.{◌≡◌, ◌++◌}
use Rattle.transport_core.proofs.NameTotals.{AreAll}
use Rattle.transport_core.proofs.totals.by_name.Given as goal

-- what is sorted and what is left are all
abbrev pub invariant-loop-name : goal.invariant-loop-name
invariant-loop-name l =
    goal.iterator-loop-name.can_next l.name-iterator ×
    goal.iterator-loop-name.is_finite l.name-iterator ×
    AreAll l.sorted.entries l.name-iterator l.initial.name-iterator

abbrev pub invariant-loop-total : goal.invariant-loop-total
invariant-loop-total l =
    goal.iterator-loop-total.can_next l.total-iterator ×
    goal.iterator-loop-total.is_finite l.total-iterator ×
    (l.totals.items ++ l.total-iterator ≡ l.initial.total-iterator)
