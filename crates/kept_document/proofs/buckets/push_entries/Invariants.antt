use Rattle.std.proofs.Common.{◌≡◌, ◌<◌, ◌++◌, ◌^◌, false, not}
use Rattle.bucket_core.specs.Rule.{total_weight}
use Rattle.kept_document.specs.Kept.{entries_text}
use Rattle.kept_document.proofs.buckets.push_entries.Given as goal

abbrev pub invariant-loop-name : goal.invariant-loop-name
invariant-loop-name l = record {
  can : (goal.iterator-loop-name).can_next l.name-iterator;
  ends_soon : (goal.iterator-loop-name).is_finite l.name-iterator;
  light : total_weight l.name-iterator < 2 ^ 31;
  made : l.out.items ++ entries_text l.mark (not l.is_first) l.name-iterator ≡ l.initial.out.items ++ entries_text l.mark false l.rule;
}
