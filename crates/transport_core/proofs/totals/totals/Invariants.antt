use Rattle.transport_core.proofs.NameTotals.{SumsUp}
use Rattle.transport_core.proofs.totals.totals.Given as goal

-- what is summed up and what is left are all
abbrev pub invariant-loop-name : goal.invariant-loop-name
invariant-loop-name l = record {
  can : (goal.iterator-loop-name).can_next l.name-iterator;
  ends_soon : (goal.iterator-loop-name).is_finite l.name-iterator;
  sums : SumsUp l.sums.entries l.name-iterator l.rule;
}
