use Rattle.flagops_ramps.proofs.Applied.{answer_before}
use Rattle.flagops_ramps.proofs.applying.answer_to.Goals as goal

pub returns : goal.returns
returns c = answer_before c.args.answers.now c.args.step c.in_ok-before.before c.get.result c.in_ok-before.ensures.0 c.in_ok-before.ensures.1 c.get.ensures.lookup
