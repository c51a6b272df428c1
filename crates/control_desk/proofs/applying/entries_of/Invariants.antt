use Rattle.std.proofs.Common.{◌≡◌, ◌++◌}
use Rattle.bucket_core.specs.Rule.{entries_view}
use Rattle.control_desk.proofs.applying.entries_of.Given as goal

-- the entries so far, and those that are left, are all
abbrev pub invariant-loop-name : goal.invariant-loop-name
invariant-loop-name l = record {
  can : (goal.iterator-loop-name).can_next l.name-iterator;
  ends_soon : (goal.iterator-loop-name).is_finite l.name-iterator;
  made : entries_view l.entries.items ++ l.name-iterator ≡ l.rule;
}
