use Rattle.std.proofs.Common.{◌<◌, ◌≤◌, drop, take, length, map, Ok, Some}
use Rattle.std.specs.Prelude.{IfSome}
use Rattle.flag_text.specs.Outcome.{GivesUnless}
use Rattle.flag_defs.specs.Flags.{flags_view}
use Rattle.plan_text.specs.Answer.{planned_view}
use Rattle.rollout.specs.declared.fault.RolloutFault.TheVariants.{WantOfMemory}
use Rattle.ramp.specs.Ramp.{Standing, requests_view}
use Rattle.ramp.proofs.Walked.{Right, Walks}
use Rattle.ramp.proofs.verifying.verify_in_turn.Given as goal

-- the answers so far are right, and the flags on which the next step stands are those that they left
abbrev pub invariant-loop-i : goal.invariant-loop-i
invariant-loop-i g l =
    let recorded = g.E.Basis.recorded l.basis in
    record {
      walk : (s : Standing) × Walks (Right recorded) (Some 1) (Ok (flags_view l.flags)) l.fn.refine (requests_view l.steps) (map planned_view (take l.i l.answers)) s l.factor (requests_view (drop l.i l.steps))
          × (l.i < length l.steps → GivesUnless WantOfMemory flags_view l.standing s);
      there : l.i ≤ length l.answers;
      some : IfSome l.factor (λ m. 0 < m);
    }
