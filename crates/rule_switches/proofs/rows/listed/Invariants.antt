use Rattle.std.proofs.Common.{◌≡◌, ◌++◌, map}
use Rattle.price_core.specs.Pricing.{lent_entry}
use Rattle.rule_switches.specs.Switches.{rows_view}
use Rattle.rule_switches.proofs.rows.listed.Given as goal

-- the rows so far and those that are left are all
abbrev pub invariant-loop-from : goal.invariant-loop-from
invariant-loop-from l =
    goal.iterator-loop-from.can_next l.from-iterator ×
    goal.iterator-loop-from.is_finite l.from-iterator ×
    (rows_view l.list.items ++ map lent_entry l.from-iterator ≡ map lent_entry l.initial.from-iterator)
