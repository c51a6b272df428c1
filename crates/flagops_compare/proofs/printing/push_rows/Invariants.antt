use Rattle.std.proofs.Common.{◌≡◌, ◌++◌, drop, string_bytes}
use Rattle.flagops_compare.specs.Printed.{row_lines}
use Rattle.flagops_compare.proofs.printing.push_rows.Given as goal
use Rattle.rule_switches.specs.Switches.{rows_view}

abbrev pub invariant-loop-row : goal.invariant-loop-row
invariant-loop-row l = string_bytes l.out ++ row_lines (rows_view (drop l.row-index l.rows)) ≡ string_bytes l.fn.out ++ row_lines (rows_view l.rows)
