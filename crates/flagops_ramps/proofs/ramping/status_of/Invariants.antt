use Rattle.std.proofs.Common.{◌≡◌, drop, map}
use Rattle.plan_text.specs.Answer.{planned_view}
use Rattle.flagops_ramps.specs.Ramp.{ramp_status}
use Rattle.flagops_ramps.proofs.ramping.status_of.Given as goal

abbrev pub invariant-loop-planned : goal.invariant-loop-planned
invariant-loop-planned l = ramp_status (map planned_view l.answers) ≡ ramp_status (map planned_view (drop l.planned-index l.answers))
