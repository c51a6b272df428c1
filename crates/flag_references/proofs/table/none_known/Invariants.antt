use Rattle.std.proofs.Common.{◌≡◌, replicate, None}
use Rattle.flag_references.proofs.table.none_known.Given as goal

abbrev pub invariant-loop : goal.invariant-loop
invariant-loop l = l.measures.items ≡ replicate l.counter None
