use Rattle.std.proofs.Common.{◌≡◌, drop}
use Rattle.flag_defs.specs.Flags.{flags_view}
use Rattle.ofrep_answers.specs.Near.{first_near}
use Rattle.ofrep_answers.proofs.near.first_near.Given as goal

-- the first of the flags that are left is the first of all
abbrev pub invariant-loop-i : goal.invariant-loop-i
invariant-loop-i l = first_near l.key (drop l.i (flags_view l.flags)) ≡ first_near l.key (flags_view l.flags)
