use Rattle.std.proofs.Common.{drop}
use Rattle.std.specs.Map.{keys_of}
use Rattle.price_core.specs.Limits.{limits_view}
use Rattle.rule_switches.specs.Runs.{runs_view}
use Rattle.rule_switches.proofs.Tables.{IsFilled}
use Rattle.rule_switches.proofs.table.table_of.Given as goal

-- the runs so far stand in the table
abbrev pub invariant-loop-run : goal.invariant-loop-run
invariant-loop-run l = IsFilled (keys_of (limits_view l.names)) (runs_view l.runs) (runs_view (drop l.run-index l.runs)) l.switches.items
