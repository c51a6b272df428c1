use Rattle.std.proofs.Common.{◌≡◌, take}
use Rattle.flag_defs.specs.Flag.{entries_view}
use Rattle.flag_defs.specs.Flags.{flags_view}
use Rattle.flag_defs.specs.Floats.{entries_floats, floats_view}
use Rattle.rollout.proofs.application.copies.Given as goal

abbrev pub invariant-loop-i : goal.invariant-loop-i
invariant-loop-i l = (entries_view l.copies.items ≡ take l.i (flags_view l.flags)) × (entries_floats l.copies.items ≡ take l.i (floats_view l.flags))
