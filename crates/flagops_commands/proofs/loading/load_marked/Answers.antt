use Rattle.flag_defs.specs.Floats.{marked_view}
use Rattle.flagops_commands.proofs.Loaded.{marked_there, no_marked}
use Rattle.flagops_commands.proofs.loading.load_marked.Goals as goal

pub returns-in-Ok-clause-exact : goal.returns-in-Ok-clause-exact
returns-in-Ok-clause-exact g c = marked_there (g.F.FileSet.holding c.args.files.now) c.args.path.now c.args.floats (marked_view c.in-Ok.flags) c.in-Ok.ensures.exact

pub returns-in-Err-clause-exact : goal.returns-in-Err-clause-exact
returns-in-Err-clause-exact g c = no_marked (g.F.FileSet.holding c.args.files.now) c.args.path.now c.args.floats c.in-Err.refused c.of.result c.of.ensures.refusal c.in-Err.ensures.exact
