use Rattle.std.proofs.Common.{◌≡◌, take}
use Rattle.flag_defs.specs.Flag.{entries_view}
use Rattle.flag_defs.specs.Floats.{entries_floats}
use Rattle.flag_defs.proofs.copy.copy_entries.Given as goal

abbrev pub invariant-loop-key : goal.invariant-loop-key
invariant-loop-key l = (entries_view l.copies.items ≡ entries_view (take l.key-index l.flags)) × (entries_floats l.copies.items ≡ entries_floats (take l.key-index l.flags))
