use Rattle.flagops_ramps.specs.Words.{verifying_view}
use Rattle.flagops_ramps.proofs.Loaded.{refused, reported}
use Rattle.flagops_ramps.proofs.Noted.{verdict_said_at}
use Rattle.flagops_ramps.proofs.verifying.verdict.Goals as goal
use Rattle.flagops_ramps.proofs.Firsts.{found_read, made}
use Rattle.flagops_ramps.specs.Diagnostics.{IsOfVerify}
use Rattle.flagops_ramps.specs.Attempts.{verify_files}
use Rattle.flagops_ramps.specs.Judging.{answered_view}

pub returns-in-Ok-clause-exact : goal.returns-in-Ok-clause-exact
returns-in-Ok-clause-exact g c = reported (verifying_view c.args.asked.now) (g.F.FileSet.holding c.args.files.now) c.in-Ok.right c.reported.result c.in-Ok.ensures.exact c.reported.ensures.exact

pub returns-in-Err-clause-exact : goal.returns-in-Err-clause-exact
returns-in-Err-clause-exact g c = refused (verifying_view c.args.asked.now) (g.F.FileSet.holding c.args.files.now) c.in-Err.told c.in-Err.ensures.exact

pub returns-in-Ok-clause-names : goal.returns-in-Ok-clause-names
returns-in-Ok-clause-names g c =
    let v = verifying_view c.args.asked.now in
    made (IsOfVerify v) c.reported.result (g.F.FileSet.holding c.args.files.now) (λ at. verify_files at v) (found_read v (answered_view c.in-Ok.right) (g.F.FileSet.holding c.args.files.now) c.in-Ok.ensures.exact) c.reported.ensures.names

pub returns-in-Ok-clause-parts : goal.returns-in-Ok-clause-parts
returns-in-Ok-clause-parts g c =
    verdict_said_at (verifying_view c.args.asked.now) (answered_view c.in-Ok.right) (g.F.FileSet.holding c.args.files.now) c.reported.result c.in-Ok.ensures.exact c.reported.ensures.parts
