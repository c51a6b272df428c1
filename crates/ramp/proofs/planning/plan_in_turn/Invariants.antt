use Rattle.std.proofs.Common.{◌≡◌, ◌<◌, drop, length, map, Ok}
use Rattle.std.specs.List.{All}
use Rattle.flag_text.specs.Outcome.{GivesUnless}
use Rattle.flag_defs.specs.Flags.{flags_view}
use Rattle.plan_text.specs.Answer.{IsOrdered, planned_view}
use Rattle.plan_text.specs.PlanFile.{IsWhole}
use Rattle.rollout.specs.declared.fault.RolloutFault.TheVariants.{WantOfMemory}
use Rattle.ramp.specs.Ramp.{Standing, requests_view}
use Rattle.ramp.proofs.Walked.{Planned, Walks}
use Rattle.ramp.proofs.planning.plan_in_turn.Given as goal

-- the steps before have answers, and the flags on which the next one stands are those that they left
abbrev pub invariant-loop-i : goal.invariant-loop-i
invariant-loop-i g l =
    let recorded = g.E.Basis.recorded l.basis in
    record {
      walk : (s : Standing) × Walks (Planned recorded) 1 (Ok (flags_view l.flags)) l.m (requests_view l.steps) (map planned_view l.answers.items) s l.factor (requests_view (drop l.i l.steps))
          × (l.i < length l.steps → GivesUnless WantOfMemory flags_view l.standing s);
      count : length l.answers.items ≡ l.i;
      some : 0 < l.factor;
      ordered : All (λ p. IsOrdered (planned_view p)) l.answers.items;
      whole : All (λ p. IsWhole (planned_view p)) l.answers.items;
    }
