use Rattle.flagops_drive.specs.File.{file_view}
use Rattle.flagops_files.specs.Loading.{max_text}
use Rattle.flagops_commands.proofs.Loaded.{no_tree, tree_there}
use Rattle.flagops_commands.proofs.books.asks.load_asks.Goals as goal

pub returns-in-Ok-clause-exact : goal.returns-in-Ok-clause-exact
returns-in-Ok-clause-exact g c = tree_there (g.F.FileSet.holding c.args.files.now) c.args.path.now max_text (file_view c.in-Ok.asks) c.in-Ok.ensures.exact

pub returns-in-Err-clause-exact : goal.returns-in-Err-clause-exact
returns-in-Err-clause-exact g c = no_tree (g.F.FileSet.holding c.args.files.now) c.args.path.now max_text c.in-Err.refused c.of.result c.of.ensures.refusal c.in-Err.ensures.exact
