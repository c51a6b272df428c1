use Rattle.flagops_pictures.specs.Words.{planning_view}
use Rattle.flagops_pictures.proofs.Diagnosed.{plan_remarks}
use Rattle.flagops_pictures.proofs.planning.PlanningCommand.answer.Goals as goal

pub returns-clause-remarks : goal.returns-clause-remarks
returns-clause-remarks g c = plan_remarks (planning_view c.args.self.now) (g.F.FileSet.holding c.args.files.now) c.outcome.result c.outcome.ensures.names c.outcome.ensures.notes c.outcome.ensures.parts
