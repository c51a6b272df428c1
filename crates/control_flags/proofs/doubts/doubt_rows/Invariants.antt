use Rattle.std.proofs.Common.{◌≡◌, map, string_bytes, take}
use Rattle.std.specs.List.{flat_map}
use Rattle.flag_defs.specs.Flags.{flags_view}
use Rattle.control_flags.specs.Doubts.{doubt_rows}
use Rattle.control_flags.proofs.doubts.doubt_rows.Given as goal

abbrev pub invariant-loop-i : goal.invariant-loop-i
invariant-loop-i l = map string_bytes l.rows.items ≡ flat_map doubt_rows (take l.i (flags_view l.flags))
