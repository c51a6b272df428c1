use Rattle.std.proofs.Common.{◌≡◌, ◌*◌, length, replicate}
use Rattle.rule_switches.specs.Table.{no_switch}
use Rattle.rule_switches.proofs.table.no_switches.Given as goal

-- a row for each name so far
abbrev pub invariant-loop : goal.invariant-loop
invariant-loop l = (l.row.items ≡ replicate (length l.names) no_switch) × (l.switches.items ≡ replicate (l.index * length l.names) no_switch)
