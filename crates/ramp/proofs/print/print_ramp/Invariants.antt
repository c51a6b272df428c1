use Rattle.std.proofs.Common.{◌≡◌, ◌≤◌, ◌+◌, ◌++◌, drop, length, map}
use Rattle.std.specs.List.{AllWithin}
use Rattle.plan_text.specs.Answer.{IsOrdered, planned_view}
use Rattle.plan_text.specs.PlanFile.{max_plan}
use Rattle.ramp.specs.Lines.{ReadsAgain, lines_from}
use Rattle.ramp.proofs.print.print_ramp.Given as goal

abbrev pub invariant-loop-i : goal.invariant-loop-i
invariant-loop-i l = record {
  lines : lines_from 1 (map planned_view l.answers) ≡ l.text.items ++ lines_from (l.i + 1) (map planned_view (drop l.i l.answers));
  fits : length l.text.items ≤ max_plan;
  again : AllWithin (λ p. IsOrdered (planned_view p) → ReadsAgain (planned_view p)) l.answers 0 l.i;
}
