use Rattle.std.proofs.Common.{◌≡◌, ◌&&◌, drop}
use Rattle.std.specs.Str.{bytes_eq}
use Rattle.ofrep_guards.proofs.key.is_same.Given as goal

-- those that are left are the same, and all before were, where all are
abbrev pub invariant-loop-i : goal.invariant-loop-i
invariant-loop-i l = (l.same && bytes_eq (drop l.i l.one) (drop l.i l.other)) ≡ bytes_eq l.one l.other
