use Rattle.flag_text.specs.View.{view}
use Rattle.flagops_commands.proofs.Loaded.{no_tree, tree_there}
use Rattle.flagops_commands.proofs.loading.load_tree.Goals as goal

pub returns-in-Ok-clause-exact : goal.returns-in-Ok-clause-exact
returns-in-Ok-clause-exact g c = tree_there (g.F.FileSet.holding c.args.files.now) c.args.path.now c.args.limit (view c.in-Ok.tree) c.in-Ok.ensures.exact

pub returns-in-Err-clause-exact : goal.returns-in-Err-clause-exact
returns-in-Err-clause-exact g c = no_tree (g.F.FileSet.holding c.args.files.now) c.args.path.now c.args.limit c.in-Err.refused c.of.result c.of.ensures.refusal c.in-Err.ensures.exact
