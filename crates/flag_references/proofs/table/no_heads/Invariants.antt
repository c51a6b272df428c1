use Rattle.std.proofs.Common.{◌≡◌, length}
use Rattle.flag_references.proofs.table.no_heads.Given as goal

abbrev pub invariant-loop : goal.invariant-loop
invariant-loop l = length l.heads.items ≡ l.counter
