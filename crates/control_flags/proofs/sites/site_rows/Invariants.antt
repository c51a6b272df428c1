use Rattle.std.proofs.Common.{◌≡◌, map, string_bytes, take}
use Rattle.std.specs.List.{flat_map}
use Rattle.flag_defs.specs.Flags.{flags_view}
use Rattle.control_flags.specs.Sites.{site_rows}
use Rattle.control_flags.proofs.sites.site_rows.Given as goal

abbrev pub invariant-loop-i : goal.invariant-loop-i
invariant-loop-i l = map string_bytes l.rows.items ≡ flat_map (site_rows l.recorded.entries) (take l.i (flags_view l.flags))
