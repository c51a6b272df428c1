use Rattle.std.proofs.Common.{◌≡◌}
use Rattle.flag_references.specs.Table.{unknown_count}
use Rattle.flag_references.proofs.table.Evaluators.read.Given as goal

abbrev pub invariant-loop : goal.invariant-loop
invariant-loop l = l.table.members ≡ l.members

abbrev pub decreases-loop : goal.decreases-loop
decreases-loop l = unknown_count l.table.measures
