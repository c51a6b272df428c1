use Rattle.flag_references.proofs.Passes.{IsPassing}
use Rattle.flag_references.proofs.table.Table.pass.Given as goal

abbrev pub invariant-loop-i : goal.invariant-loop-i
invariant-loop-i l = IsPassing l.initial.self l.self l.learned l.i
