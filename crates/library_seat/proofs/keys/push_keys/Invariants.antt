use Rattle.std.proofs.Common.{◌≡◌, take, string_bytes}
use Rattle.std.specs.List.{flat_map}
use Rattle.flag_defs.specs.Flags.{flags_view}
use Rattle.library_seat.specs.Keys.{key_line}
use Rattle.library_seat.proofs.keys.push_keys.Given as goal

abbrev pub invariant-loop-i : goal.invariant-loop-i
invariant-loop-i l = string_bytes l.text ≡ flat_map key_line (take l.i (flags_view l.flags))
