use Rattle.std.proofs.Common.{◌≡◌, ◌++◌, drop, map}
use Rattle.flag_defs.specs.Flags.{flags_view}
use Rattle.flagops_checks.specs.Judged.{judged, judged_view}
use Rattle.flagops_checks.proofs.judging.judge.Given as goal

abbrev pub invariant-loop-i : goal.invariant-loop-i
invariant-loop-i l = map judged_view l.all.items ++ map (judged l.names.floats l.names.bytes.now) (drop l.i (flags_view l.flags)) ≡ map (judged l.names.floats l.names.bytes.now) (flags_view l.flags)
