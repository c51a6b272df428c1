-- Each turn takes one step.
use Rattle.std.proofs.Common.{get_or}
use Rattle.min_cost_flow.proofs.MovedAlong.{any_default, step_here, no_step, moves_more}
use Rattle.min_cost_flow.proofs.augmenting.push_along.Goals as goal

pub loop-step-preserved : goal.loop-step-preserved
loop-step-preserved c =
    let steps = c.args.steps.now in
    let i = c.loop-step.step-index in
    let below = c.loop-step-test.true in
    moves_more c.args.problem.now c.args.flow.now c.loop-step.flow c.push.new.self c.args.points steps i (get_or steps i no_step) c.requires.steps.some c.requires.steps.each c.requires.steps.apart below (λ d. any_default steps i no_step d below)
    (step_here steps i no_step below) c.loop-step.invariant c.push.ensures.flow c.push.ensures.pushed
