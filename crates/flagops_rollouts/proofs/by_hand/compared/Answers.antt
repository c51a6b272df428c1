use Rattle.flagops_rollouts.proofs.Edits.{compared}
use Rattle.flagops_rollouts.proofs.by_hand.compared.Goals as goal

pub returns : goal.returns
returns c =
    compared c.args.before.now c.args.after.now c.args.counts.now c.in_ok-by_hand.by_hand c.args.all c.in_ok-by_plan.by_plan c.edit_words.result c.in_ok-by_hand.ensures c.in_ok-by_plan.ensures c.requires.all c.edit_words.ensures
