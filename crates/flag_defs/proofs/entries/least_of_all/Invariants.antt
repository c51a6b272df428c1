use Rattle.std.proofs.Common.{◌≡◌, drop}
use Rattle.flag_defs.specs.Foreseen.{least_sum}
use Rattle.flag_defs.proofs.entries.least_of_all.Given as goal

abbrev pub invariant-loop-i : goal.invariant-loop-i
invariant-loop-i l = least_sum (drop l.i l.forecasts) ≡ l.least
