use Rattle.rule_text.specs.Choosing.{choice_view}
use Rattle.flagops_commands.proofs.Loaded.{no_choice, choice_there}
use Rattle.flagops_commands.proofs.loading.load_choice.Goals as goal

pub returns-in-Ok-clause-exact : goal.returns-in-Ok-clause-exact
returns-in-Ok-clause-exact g c = choice_there (g.F.FileSet.holding c.args.files.now) c.args.path.now c.args.key.now (choice_view c.in-Ok.choice) c.in-Ok.ensures.exact

pub returns-in-Err-clause-exact : goal.returns-in-Err-clause-exact
returns-in-Err-clause-exact g c = no_choice (g.F.FileSet.holding c.args.files.now) c.args.path.now c.args.key.now c.in-Err.refused c.of.result c.of.ensures.refusal c.in-Err.ensures.exact
