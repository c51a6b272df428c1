use Rattle.std.proofs.Common.{is_some}
use Rattle.flagops_rollouts.specs.Keep.{IsKeptPut, kept_view}
use Rattle.flagops_ramps.proofs.Kept.{not_put, put_there}
use Rattle.flagops_ramps.proofs.keeping.put.Goals as goal

pub returns-in-Ok-clause-exact : goal.returns-in-Ok-clause-exact
returns-in-Ok-clause-exact g c =
    put_there (λ at. IsKeptPut at (g.F.FileSet.holding c.put.new.files) c.args.asked.now.answered.rollout.document.now c.args.asked.now.write (is_some c.args.remark) (kept_view c.args.text)) (g.F.FileSet.holding c.args.files.now)
    c.in-Ok.outcome c.in-Ok.ensures.exact

pub returns-in-Err-clause-exact : goal.returns-in-Err-clause-exact
returns-in-Err-clause-exact g c =
    not_put (λ at. IsKeptPut at (g.F.FileSet.holding c.put.new.files) c.args.asked.now.answered.rollout.document.now c.args.asked.now.write (is_some c.args.remark) (kept_view c.args.text)) (g.F.FileSet.holding c.args.files.now)
    c.in-Err.refused c.of.result c.of.ensures.refusal c.in-Err.ensures.exact
