use Rattle.std.proofs.Common.{◌≡◌, length}
use Rattle.flag_references.proofs.walk.walk.Given as goal

abbrev pub invariant-loop-name : goal.invariant-loop-name
invariant-loop-name l = record { members : l.table.members ≡ l.initial.table.members; each_entered : length l.entered.items ≡ length l.table.members }
