use Rattle.std.proofs.Common.{◌≡◌, drop}
use Rattle.flag_defs.specs.Floats.{are_unmarked, entries_floats}
use Rattle.flag_defs.proofs.spelled.are_unmarked.Given as goal

abbrev pub invariant-loop-flag : goal.invariant-loop-flag
invariant-loop-flag l = are_unmarked (entries_floats (drop l.flag-index l.flags)) ≡ are_unmarked (entries_floats l.flags)
