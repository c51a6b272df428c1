use Rattle.std.proofs.Common.{◌≡◌, drop}
use Rattle.flag_defs.specs.Flags.{flags_view}
use Rattle.flag_doubts.specs.Regression.{first_broken}
use Rattle.flag_doubts.proofs.broken.first_broken.Given as goal

-- the first of the flags that are left is the first of all
abbrev pub invariant-loop-i : goal.invariant-loop-i
invariant-loop-i l = first_broken (flags_view l.later) (drop l.i (flags_view l.current)) ≡ first_broken (flags_view l.later) (flags_view l.current)
