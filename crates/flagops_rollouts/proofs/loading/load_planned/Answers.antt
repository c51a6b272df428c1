use Rattle.plan_text.specs.Answer.{planned_view}
use Rattle.flagops_rollouts.proofs.Loaded.{no_plan, plan_there}
use Rattle.flagops_rollouts.proofs.loading.load_planned.Goals as goal

pub returns-in-Ok-clause-exact : goal.returns-in-Ok-clause-exact
returns-in-Ok-clause-exact g c = plan_there (g.F.FileSet.holding c.args.files.now) c.args.path.now (planned_view c.in-Ok.planned) c.in-Ok.ensures.exact

pub returns-in-Err-clause-exact : goal.returns-in-Err-clause-exact
returns-in-Err-clause-exact g c = no_plan (g.F.FileSet.holding c.args.files.now) c.args.path.now c.in-Err.refused c.of.result c.of.ensures.refusal c.in-Err.ensures.exact
