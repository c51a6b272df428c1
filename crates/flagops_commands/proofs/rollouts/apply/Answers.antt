use Rattle.flagops_rollouts.specs.Apply.{IsApplyReport}
use Rattle.flagops_rollouts.specs.Attempts.{apply_attempts}
use Rattle.flagops_commands.proofs.Loaded.{not_rolled, rolled_there, rolled_told}
use Rattle.flagops_commands.proofs.rollouts.apply.Goals as goal

pub returns-in-Ok-clause-exact : goal.returns-in-Ok-clause-exact
returns-in-Ok-clause-exact g c = rolled_there (λ at. IsApplyReport c.args.floats at c.args.document.now c.args.plan.now c.args.key.now c.args.site c.args.strict) (g.F.FileSet.holding c.args.files.now) c.in-Ok.outcome c.in-Ok.ensures.exact

pub returns-in-Err-clause-exact : goal.returns-in-Err-clause-exact
returns-in-Err-clause-exact g c = not_rolled (λ at. IsApplyReport c.args.floats at c.args.document.now c.args.plan.now c.args.key.now c.args.site c.args.strict) (g.F.FileSet.holding c.args.files.now) c.in-Err.refused c.of.result c.of.ensures.refusal c.in-Err.ensures.exact

pub returns-in-Err-clause-names : goal.returns-in-Err-clause-names
returns-in-Err-clause-names g c =
    rolled_told (g.F.FileSet.holding c.args.files.now) (λ at. apply_attempts c.args.floats at c.args.document.now c.args.plan.now) c.in-Err.refused c.of.result c.of.ensures.refusal c.of.ensures.remark c.in-Err.ensures.first
