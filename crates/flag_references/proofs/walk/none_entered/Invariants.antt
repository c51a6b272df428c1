use Rattle.std.proofs.Common.{◌≡◌, length}
use Rattle.flag_references.proofs.walk.none_entered.Given as goal

abbrev pub invariant-loop : goal.invariant-loop
invariant-loop l = length l.entered.items ≡ l.counter
