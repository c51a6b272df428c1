use Rattle.std.proofs.Common.{option_map}
use Rattle.flagops_rollouts.specs.Plan.{IsPlanReport}
use Rattle.flagops_rollouts.specs.Attempts.{plan_attempts}
use Rattle.flagops_commands.proofs.Loaded.{not_rolled, rolled_there, rolled_told}
use Rattle.flagops_commands.proofs.rollouts.plan.Goals as goal

pub returns-in-Ok-clause-exact : goal.returns-in-Ok-clause-exact
returns-in-Ok-clause-exact g c = rolled_there (λ at. IsPlanReport c.args.floats at c.args.document.now c.args.request.now c.args.book.now (option_map (λ m. m.number) c.args.refine) c.args.strict c.args.explain) (g.F.FileSet.holding c.args.files.now) c.in-Ok.outcome c.in-Ok.ensures.exact

pub returns-in-Err-clause-exact : goal.returns-in-Err-clause-exact
returns-in-Err-clause-exact g c = not_rolled (λ at. IsPlanReport c.args.floats at c.args.document.now c.args.request.now c.args.book.now (option_map (λ m. m.number) c.args.refine) c.args.strict c.args.explain) (g.F.FileSet.holding c.args.files.now) c.in-Err.refused c.of.result c.of.ensures.refusal c.in-Err.ensures.exact

pub returns-in-Err-clause-names : goal.returns-in-Err-clause-names
returns-in-Err-clause-names g c =
    rolled_told (g.F.FileSet.holding c.args.files.now) (λ at. plan_attempts c.args.floats at c.args.document.now c.args.request.now c.args.book.now) c.in-Err.refused c.of.result c.of.ensures.refusal c.of.ensures.remark c.in-Err.ensures.first
