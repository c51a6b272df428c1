use Rattle.std.proofs.Common.{◌≡◌, ◌+◌, ◌++◌}
use Rattle.bucket_core.specs.Rule.{total_weight, ends_from}
use Rattle.bucket_core.proofs.weights.ends_of.Given as goal

abbrev pub invariant-loop-weight : goal.invariant-loop-weight
invariant-loop-weight l = record {
  can : (goal.iterator-loop-weight).can_next l.weight-iterator;
  ends_soon : (goal.iterator-loop-weight).is_finite l.weight-iterator;
  adds_up : l.end + total_weight l.weight-iterator ≡ total_weight l.fn.entries;
  ends : l.ends.items ++ ends_from l.end l.weight-iterator ≡ ends_from 0 l.fn.entries;
}
