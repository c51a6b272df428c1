use Rattle.std.proofs.Common.{◌≡◌, ◌+◌, ◌*◌, ◌^◌, ◌≤◌, drop}
use Rattle.bucket_core.specs.Rule.{total_weight}
use Rattle.rule_text.specs.Lent.{lent_view}
use Rattle.rule_text.proofs.lent.total_of.Given as goal

-- what is summed, with the rest, is the whole
abbrev pub invariant-loop-weight : goal.invariant-loop-weight
invariant-loop-weight l = record {
  whole : l.sum + total_weight (lent_view (drop l.weight-index l.entries)) ≡ total_weight (lent_view l.entries);
  small : l.sum ≤ l.weight-index * 2 ^ 64;
}
