use Rattle.std.proofs.Common.{◌≡◌, map, string_bytes, take}
use Rattle.flag_defs.specs.Flags.{flags_view}
use Rattle.flagops_files.specs.Known.{near_keys}
use Rattle.flagops_files.proofs.known.near_keys.Given as goal

abbrev pub invariant-loop-i : goal.invariant-loop-i
invariant-loop-i l = map string_bytes l.near.items ≡ near_keys l.key (take l.i (flags_view l.flags))
