use Rattle.flag_defs.specs.Flags.{flags_view}
use Rattle.flagops_rollouts.proofs.Loaded.{no_flags, flags_there}
use Rattle.flagops_rollouts.proofs.loading.load_document.Goals as goal

pub returns-in-Ok-clause-exact : goal.returns-in-Ok-clause-exact
returns-in-Ok-clause-exact g c = flags_there (g.F.FileSet.holding c.args.files.now) c.args.path.now c.args.floats (flags_view c.in-Ok.document.flags) c.in-Ok.ensures.exact

pub returns-in-Err-clause-exact : goal.returns-in-Err-clause-exact
returns-in-Err-clause-exact g c = no_flags (g.F.FileSet.holding c.args.files.now) c.args.path.now c.args.floats c.in-Err.refused c.of.result c.of.ensures.refusal c.in-Err.ensures.exact
