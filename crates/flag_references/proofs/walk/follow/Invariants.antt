use Rattle.std.proofs.Common.{◌≡◌, length}
use Rattle.flag_references.proofs.walk.follow.Given as goal

abbrev pub invariant-loop : goal.invariant-loop
invariant-loop l = record { members : l.table.members ≡ l.initial.table.members; each_entered : length l.entered.items ≡ length l.table.members }
