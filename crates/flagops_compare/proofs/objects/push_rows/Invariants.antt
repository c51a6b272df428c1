use Rattle.std.proofs.Common.{◌≡◌, ◌++◌, drop, false, string_bytes}
use Rattle.flagops_compare.specs.Printed.{row_objects}
use Rattle.flagops_compare.proofs.objects.push_rows.Given as goal
use Rattle.rule_switches.specs.Switches.{rows_view}

abbrev pub invariant-loop-row : goal.invariant-loop-row
invariant-loop-row l = string_bytes l.out ++ row_objects l.later (rows_view (drop l.row-index l.rows)) ≡ string_bytes l.fn.out ++ row_objects false (rows_view l.rows)
