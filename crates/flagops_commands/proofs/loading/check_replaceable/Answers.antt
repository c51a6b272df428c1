use Rattle.flagops_commands.proofs.Loaded.{not_replaceable, replaceable_there}
use Rattle.flagops_commands.proofs.loading.check_replaceable.Goals as goal

pub returns-in-Ok-clause-exact : goal.returns-in-Ok-clause-exact
returns-in-Ok-clause-exact g c = replaceable_there (g.F.FileSet.holding c.args.files.now) c.args.path.now tt c.in-Ok.ensures.exact

pub returns-in-Err-clause-exact : goal.returns-in-Err-clause-exact
returns-in-Err-clause-exact g c = not_replaceable (g.F.FileSet.holding c.args.files.now) c.args.path.now c.in-Err.refused c.of.result c.of.ensures.refusal c.in-Err.ensures.exact
