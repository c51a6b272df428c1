use Rattle.std.proofs.Common.{sym, arith}
use Rattle.ramp.proofs.Requests.{none_of, some_of}
use Rattle.ramp.proofs.steps.some_steps.Goals as goal
use Rattle.ramp.proofs.steps.some_steps.Goals.{else-steps-ge1-via-then-steps-ge1+else-steps-le-RAMP_STEPS, else-steps-ge1-via-else-steps-ge1}

pub returns-then-steps-le-RAMP_STEPS-clause-items : goal.returns-then-steps-le-RAMP_STEPS-clause-items
returns-then-steps-le-RAMP_STEPS-clause-items c = sym (some_of c.args.steps.now (omega (arith, c.if-steps-ge1.true)) (omega (arith, c.if-steps-le-RAMP_STEPS.true)))

pub returns-else-steps-ge1-clause-items : goal.returns-else-steps-ge1-clause-items
returns-else-steps-ge1-clause-items c =
    sym (none_of c.args.steps.now (λ a b. elim c.else-steps-ge1.branch [
      | else-steps-ge1-via-then-steps-ge1+else-steps-le-RAMP_STEPS w ↦ omega (arith, a, b, w.if-steps-le-RAMP_STEPS.false)
      | else-steps-ge1-via-else-steps-ge1 w ↦ omega (arith, a, b, w.if-steps-ge1.false)
    ]))
