use Rattle.flagops_rollouts.proofs.Parts.{both_named}
use Rattle.flagops_rollouts.proofs.passed_over.with_more.Goals as goal

pub returns-clause-notes : goal.returns-clause-notes
returns-clause-notes c = both_named c.args.path.now c.args.first c.args.more c.behind.result c.requires.first c.requires.more c.behind.ensures.both
