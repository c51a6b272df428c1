use Rattle.std.proofs.Common.{◌≡◌, map, string_bytes, take}
use Rattle.std.specs.List.{flat_map, zip}
use Rattle.flag_defs.specs.Flags.{flags_view}
use Rattle.flag_defs.specs.Floats.{floats_view}
use Rattle.control_flags.specs.Kinds.{kind_rows}
use Rattle.control_flags.proofs.kinds.kind_rows.Given as goal

abbrev pub invariant-loop-i : goal.invariant-loop-i
invariant-loop-i l = map string_bytes l.rows.items ≡ flat_map kind_rows (take l.i (zip (flags_view l.flags) (floats_view l.flags)))
