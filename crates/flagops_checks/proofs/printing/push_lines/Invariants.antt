use Rattle.std.proofs.Common.{◌≡◌, ◌++◌, drop, map}
use Rattle.flagops_checks.specs.Judged.{judged_view}
use Rattle.flagops_checks.specs.Printed.{flag_lines}
use Rattle.flagops_checks.proofs.printing.push_lines.Given as goal

abbrev pub invariant-loop-flag : goal.invariant-loop-flag
invariant-loop-flag l = l.out.items ++ flag_lines (map judged_view (drop l.flag-index l.flags)) ≡ l.fn.out.items ++ flag_lines (map judged_view l.flags)
