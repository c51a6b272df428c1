use Rattle.std.proofs.Common.{◌≡◌, take, string_bytes}
use Rattle.std.specs.List.{flat_map}
use Rattle.flag_defs.specs.Flags.{flags_view}
use Rattle.flagops_rollouts.specs.Omitted.{flag_line}
use Rattle.flagops_rollouts.proofs.omitted.broken_lines.Given as goal

abbrev pub invariant-loop-i : goal.invariant-loop-i
invariant-loop-i l = string_bytes l.lines ≡ flat_map flag_line (take l.i (flags_view l.flags))
