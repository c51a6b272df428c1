use Rattle.std.proofs.Common.{◌≡◌, ◌++◌, drop, false, string_bytes}
use Rattle.rule_switches.specs.Switches.{rows_view}
use Rattle.control_answers.specs.Body.{rows_text}
use Rattle.control_answers.proofs.body.push_rows.Given as goal

abbrev pub invariant-loop-row : goal.invariant-loop-row
invariant-loop-row l = string_bytes l.out ++ rows_text l.later (rows_view (drop l.row-index l.rows)) ≡ string_bytes l.fn.out ++ rows_text false (rows_view l.rows)
