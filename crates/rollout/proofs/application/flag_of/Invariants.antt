use Rattle.std.proofs.Common.{◌≡◌, drop}
use Rattle.std.specs.Map.{lookup}
use Rattle.std.specs.Str.{bytes_eq}
use Rattle.flag_defs.specs.Flags.{flags_view}
use Rattle.flag_defs.specs.Floats.{floats_view}
use Rattle.rollout.proofs.application.flag_of.Given as goal

-- the rest answers as the whole
abbrev pub invariant-loop-i : goal.invariant-loop-i
invariant-loop-i l = record {
  flag : lookup (bytes_eq l.key) (drop l.i (flags_view l.flags)) ≡ lookup (bytes_eq l.key) (flags_view l.flags);
  floats : lookup (bytes_eq l.key) (drop l.i (floats_view l.flags)) ≡ lookup (bytes_eq l.key) (floats_view l.flags);
}
