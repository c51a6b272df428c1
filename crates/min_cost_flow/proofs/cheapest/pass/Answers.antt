-- Each pass makes at most as many augmentations as there are points.
use Rattle.std.proofs.Common.{arith}
use Rattle.min_cost_flow.proofs.Spending.{excess_few, deficit_few}
use Rattle.min_cost_flow.proofs.cheapest.pass.Goals as goal

pub returns-in_err-place_within_high-clause-augmentations : goal.returns-in_err-place_within_high-clause-augmentations
returns-in_err-place_within_high-clause-augmentations g c = omega (arith, c.place_within_high.ensures.effort.augmentations, excess_few c.args.problem.now c.args.flow.now c.requires.first_pass.flow)

pub returns-then-not-branch-clause-augmentations : goal.returns-then-not-branch-clause-augmentations
returns-then-not-branch-clause-augmentations g c = omega (arith, c.place_within_high.ensures.effort.augmentations, excess_few c.args.problem.now c.args.flow.now c.requires.first_pass.flow)

pub returns-in_err-meet_low-clause-augmentations : goal.returns-in_err-meet_low-clause-augmentations
returns-in_err-meet_low-clause-augmentations g c = omega (arith, c.place_within_high.ensures.effort.augmentations, excess_few c.args.problem.now c.args.flow.now c.requires.first_pass.flow, c.meet_low.ensures.effort.augmentations, deficit_few c.args.problem.now c.place_within_high.new.flow c.requires.problem)

pub returns-then-not-branch-2-clause-augmentations : goal.returns-then-not-branch-2-clause-augmentations
returns-then-not-branch-2-clause-augmentations g c = omega (arith, c.place_within_high.ensures.effort.augmentations, excess_few c.args.problem.now c.args.flow.now c.requires.first_pass.flow, c.meet_low.ensures.effort.augmentations, deficit_few c.args.problem.now c.place_within_high.new.flow c.requires.problem)

pub returns-clause-augmentations : goal.returns-clause-augmentations
returns-clause-augmentations g c = omega (arith, c.place_within_high.ensures.effort.augmentations, excess_few c.args.problem.now c.args.flow.now c.requires.first_pass.flow, c.meet_low.ensures.effort.augmentations, deficit_few c.args.problem.now c.place_within_high.new.flow c.requires.problem)
