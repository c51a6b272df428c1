use Rattle.std.proofs.Common.{◌≡◌, ◌≤◌, ◌++◌, length, drop}
use Rattle.flagops_commands.proofs.AddedUp.{AreTotals, named_totals}
use Rattle.flagops_commands.proofs.rules.totals.totals_by_name.Given as goal

abbrev pub invariant-loop-left : goal.invariant-loop-left
invariant-loop-left l = record {
  inside : l.left ≤ length l.rule;
  added : AreTotals (named_totals l.by_name.entries) (drop l.left l.rule);
}

abbrev pub decreases-loop-left : goal.decreases-loop-left
decreases-loop-left l = l.left

abbrev pub invariant-loop-total : goal.invariant-loop-total
invariant-loop-total l =
    goal.iterator-loop-total.can_next l.total-iterator ×
    goal.iterator-loop-total.is_finite l.total-iterator ×
    (l.totals.items ++ l.total-iterator ≡ l.initial.total-iterator)
