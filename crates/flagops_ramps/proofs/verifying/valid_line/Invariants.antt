use Rattle.std.proofs.Common.{◌≡◌, ◌++◌, drop, map, string_bytes}
use Rattle.plan_text.specs.Answer.{planned_view}
use Rattle.flagops_ramps.specs.Verify.{cost_items, valid_ramp}
use Rattle.flagops_ramps.proofs.verifying.valid_line.Given as goal

abbrev pub invariant-loop-planned : goal.invariant-loop-planned
invariant-loop-planned l = string_bytes l.line ++ cost_items (map planned_view (drop l.planned-index l.answers)) ≡ valid_ramp (map planned_view l.answers)
