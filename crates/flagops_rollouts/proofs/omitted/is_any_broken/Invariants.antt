use Rattle.std.proofs.Common.{◌≡◌, drop, ℕ, List}
use Rattle.std.specs.List.{list_any}
use Rattle.flag_defs.specs.Definition.{Definition}
use Rattle.flag_defs.specs.Flag.{is_broken}
use Rattle.flag_defs.specs.Flags.{flags_view}
use Rattle.flagops_rollouts.proofs.omitted.is_any_broken.Given as goal

-- one of the flags that are left is broken where one of all is
abbrev pub invariant-loop-i : goal.invariant-loop-i
invariant-loop-i l = list_any (λ (f : List ℕ × Definition). is_broken f.1) (drop l.i (flags_view l.flags)) ≡ list_any (λ (f : List ℕ × Definition). is_broken f.1) (flags_view l.flags)
