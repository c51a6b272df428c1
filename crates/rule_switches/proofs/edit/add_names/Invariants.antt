use Rattle.std.proofs.Common.{◌≡◌, ◌++◌, List, ℕ}
use Rattle.std.specs.Map.{keys_of}
use Rattle.bucket_core.specs.Rule.{entries_view}
use Rattle.rule_switches.proofs.Edits.{comes_to}
use Rattle.rule_switches.proofs.edit.add_names.Given as goal

-- the entries so far, with the names that are left, come to what the first ones came to with all
abbrev pub invariant-loop-name : goal.invariant-loop-name
invariant-loop-name l = record {
  can : (goal.iterator-loop-name).can_next l.name-iterator;
  ends_soon : (goal.iterator-loop-name).is_finite l.name-iterator;
  same : (more : List (List ℕ)) → comes_to l.totals (entries_view l.entries.items) (keys_of l.name-iterator ++ more) ≡ comes_to l.totals (entries_view l.fn.entries.items) (keys_of l.rule ++ more);
}
