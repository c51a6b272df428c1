use Rattle.std.proofs.Common.{drop}
use Rattle.rule_switches.proofs.Going.{GoesOn}
use Rattle.rule_switches.proofs.counting.Counting.switches.Given as goal

-- the rows so far and the cells that are left are all
abbrev pub invariant-loop-cell : goal.invariant-loop-cell
invariant-loop-cell l = GoesOn l.self l.rows.entries (drop l.cell-index l.self.cells)
