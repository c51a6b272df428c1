use Rattle.std.proofs.Common.{◌≡◌, ◌++◌, drop, map, string_bytes}
use Rattle.flag_resolve.specs.Printing.{others_text}
use Rattle.flag_resolve.specs.Views.{reached_shape}
use Rattle.flag_resolve.proofs.print.push_others.Given as goal

abbrev pub invariant-loop-reach : goal.invariant-loop-reach
invariant-loop-reach l = string_bytes l.out ++ others_text (map reached_shape (drop l.reach-index l.reached)) ≡ string_bytes l.initial.out ++ others_text (map reached_shape l.reached)
