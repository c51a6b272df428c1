use Rattle.std.proofs.Common.{◌≡◌, ◌++◌, drop, string_bytes}
use Rattle.std.specs.List.{zip}
use Rattle.flag_defs.specs.Flag.{entries_view}
use Rattle.flag_defs.specs.Floats.{entries_floats}
use Rattle.flag_defs.specs.Spelled.{other_entries_spelled}
use Rattle.flag_defs.proofs.spelled.push_other_entries.Given as goal

abbrev pub invariant-loop-entry : goal.invariant-loop-entry
invariant-loop-entry l =
    string_bytes l.out ++ other_entries_spelled (zip (entries_view (drop l.entry-index l.flags)) (entries_floats (drop l.entry-index l.flags)))
    ≡ string_bytes l.initial.out ++ other_entries_spelled (zip (entries_view l.flags) (entries_floats l.flags))
