use Rattle.std.proofs.Common.{◌≡◌, take}
use Rattle.flag_defs.specs.Flag.{entries_view}
use Rattle.flag_defs.specs.Lent.{lent_view}
use Rattle.flag_defs.proofs.bounded.lent.Given as goal

abbrev pub invariant-loop-key : goal.invariant-loop-key
invariant-loop-key l = lent_view l.lent.items ≡ entries_view (take l.key-index l.flags)
