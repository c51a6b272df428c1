use Rattle.std.proofs.Common.{◌≡◌, ◌+◌}
use Rattle.bucket_core.specs.Rule.{total_of}
use Rattle.bucket_core.proofs.weights.weight_of.Given as goal

abbrev pub invariant-loop-other : goal.invariant-loop-other
invariant-loop-other l = record {
  can : (goal.iterator-loop-other).can_next l.other-iterator;
  ends_soon : (goal.iterator-loop-other).is_finite l.other-iterator;
  adds_up : l.total + total_of l.other-iterator l.name ≡ total_of l.fn.entries l.name;
}
