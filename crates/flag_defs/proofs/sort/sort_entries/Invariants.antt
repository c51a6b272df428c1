use Rattle.std.proofs.Common.{◌≡◌, ◌++◌}
use Rattle.flag_defs.specs.Changes.{by_key}
use Rattle.flag_defs.specs.Flag.{entries_view}
use Rattle.flag_defs.specs.Floats.{entries_floats, marks_by_key}
use Rattle.flag_defs.proofs.sort.sort_entries.Given as goal

abbrev pub invariant-loop-key : goal.invariant-loop-key
invariant-loop-key l = (entries_view l.by_key.entries ≡ by_key (entries_view l.yielded)) × (entries_floats l.by_key.entries ≡ marks_by_key (entries_floats l.yielded))

abbrev pub invariant-loop-key-2 : goal.invariant-loop-key-2
invariant-loop-key-2 l =
    goal.iterator-loop-key-2.can_next l.key-iterator ×
    goal.iterator-loop-key-2.is_finite l.key-iterator ×
    (l.flags.items ++ l.key-iterator ≡ l.initial.key-iterator)
