use Rattle.std.proofs.Common.{◌≡◌, ◌+◌, ◌*◌, ◌^◌, ◌≤◌, drop}
use Rattle.bucket_core.specs.Rule.{total_weight, entries_view}
use Rattle.bucket_core.proofs.weights.total_weight.Given as goal

-- what is summed, with the rest, is the whole
abbrev pub invariant-loop-weight : goal.invariant-loop-weight
invariant-loop-weight l = record {
  whole : l.sum + total_weight (entries_view (drop l.weight-index l.entries)) ≡ total_weight (entries_view l.entries);
  small : l.sum ≤ l.weight-index * 2 ^ 64;
}
