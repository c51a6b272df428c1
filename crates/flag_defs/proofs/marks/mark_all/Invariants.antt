use Rattle.std.proofs.Common.{◌≡◌, map}
use Rattle.spelled_numbers.specs.View.{mark_view}
use Rattle.flag_defs.specs.Flag.{entries_view}
use Rattle.flag_defs.specs.Floats.{entries_floats, marked}
use Rattle.flag_defs.proofs.marks.mark_all.Given as goal

abbrev pub invariant-loop-key : goal.invariant-loop-key
invariant-loop-key l = (entries_view l.all.items ≡ entries_view l.yielded) × (entries_floats l.all.items ≡ marked (map mark_view l.fn.marks.items) (entries_view l.yielded))
