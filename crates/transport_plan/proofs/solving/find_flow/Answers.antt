-- The bounds by the instance's numbers.
use Rattle.transport_plan.proofs.Spending.{augmentations_few, settlings_few}
use Rattle.transport_plan.proofs.solving.find_flow.Goals as goal

pub returns-clause-augmentations : goal.returns-clause-augmentations
returns-clause-augmentations g c =
    augmentations_few c.args.instance.now c.args.problem.now c.args.effort.now.augmentations c.cheapest_flow.new.effort.augmentations c.requires.numbered c.cheapest_flow.ensures.augmentations

pub returns-clause-settlings : goal.returns-clause-settlings
returns-clause-settlings g c =
    settlings_few c.args.instance.now c.args.problem.now c.args.effort.now c.cheapest_flow.new.effort c.groups-groups.ensures.lawful c.requires.numbered c.cheapest_flow.ensures.searches c.cheapest_flow.ensures.augmentations
