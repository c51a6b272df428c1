use Rattle.std.proofs.Common.{◌≡◌}
use Rattle.bucket_core.specs.Rule.{entries_view}
use Rattle.flagops_rollouts.specs.Standing.{are_same}
use Rattle.flagops_rollouts.proofs.standing.are_same.Given as goal

abbrev pub invariant-loop-name : goal.invariant-loop-name
invariant-loop-name l = record {
  can : (goal.iterator-loop-name).can_next l.name-iterator;
  ends_soon : (goal.iterator-loop-name).is_finite l.name-iterator;
  left : are_same l.name-iterator (entries_view l.rest) ≡ are_same l.rule (entries_view l.entries);
}
