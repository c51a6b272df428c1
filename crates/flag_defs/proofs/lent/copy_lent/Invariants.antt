use Rattle.std.proofs.Common.{◌≡◌, take}
use Rattle.flag_defs.specs.Flag.{entries_view}
use Rattle.flag_defs.specs.Floats.{entries_floats, lent_floats}
use Rattle.flag_defs.specs.Lent.{lent_view}
use Rattle.flag_defs.proofs.lent.copy_lent.Given as goal

abbrev pub invariant-loop-key : goal.invariant-loop-key
invariant-loop-key l = (entries_view l.copies.items ≡ lent_view (take l.key-index l.entries)) × (entries_floats l.copies.items ≡ lent_floats (take l.key-index l.entries))
