use Rattle.std.proofs.Common.{◌≡◌, drop}
use Rattle.near_names.specs.Near.{is_slip}
use Rattle.near_names.proofs.near.is_slip.Given as goal

abbrev pub invariant-loop-i : goal.invariant-loop-i
invariant-loop-i l = is_slip (drop l.i l.a) (drop l.i l.b) ≡ is_slip l.a l.b
