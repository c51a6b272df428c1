use Rattle.std.specs.Prelude.{Err, Ok, Result}
use Rattle.flagops_shell.specs.declared.outcome.Outcome.{Outcome}
use Rattle.flagops_ramps.proofs.Diagnosed.{wanting as wants}
use Rattle.flagops_ramps.proofs.Firsts.{found_read, made}
use Rattle.flagops_ramps.proofs.Noted.{verdict_said_at}
use Rattle.flagops_ramps.specs.Attempts.{verify_files}
use Rattle.flagops_ramps.specs.Diagnostics.{IsOfVerify}
use Rattle.flagops_ramps.specs.Judging.{answered_view}
use Rattle.flagops_ramps.specs.Report.{Told}
use Rattle.flagops_ramps.specs.Words.{verifying_view}
use Rattle.flagops_pictures.proofs.Stepped.{pictured, refused, wanting}
use Rattle.flagops_pictures.proofs.ramps.pictured.Goals as goal

pub returns-in-Ok-drawn-clause-exact : goal.returns-in-Ok-drawn-clause-exact
returns-in-Ok-drawn-clause-exact g c = pictured (verifying_view c.args.asked.now) (g.F.FileSet.holding c.args.files.now) c.in-Ok.right c.in-Ok-drawn.outcome c.in-Ok.ensures.exact c.in-Ok-drawn.ensures.drawn

pub returns-in-Ok-clause-exact : goal.returns-in-Ok-clause-exact
returns-in-Ok-clause-exact g c = wanting (verifying_view c.args.asked.now) (g.F.FileSet.holding c.args.files.now) c.out_of_memory.result c.out_of_memory.ensures.want

pub returns-clause-exact : goal.returns-clause-exact
returns-clause-exact g c = refused (verifying_view c.args.asked.now) (g.F.FileSet.holding c.args.files.now) c.in-Err.told c.in-Err.ensures.exact

pub returns-in-Ok-drawn-clause-names : goal.returns-in-Ok-drawn-clause-names
returns-in-Ok-drawn-clause-names g c =
    let v = verifying_view c.args.asked.now in
    let files = g.F.FileSet.holding c.args.files.now in
    let r : Result Outcome Told = Ok c.in-Ok-drawn.outcome in
    made (IsOfVerify v) r files (λ at. verify_files at v) (found_read v (answered_view c.in-Ok.right) files c.in-Ok.ensures.exact) tt

pub returns-in-Ok-clause-names : goal.returns-in-Ok-clause-names
returns-in-Ok-clause-names g c =
    let v = verifying_view c.args.asked.now in
    let files = g.F.FileSet.holding c.args.files.now in
    let t = c.out_of_memory.result in
    let r : Result Outcome Told = Err t in
    made (IsOfVerify v) r files (λ at. verify_files at v) (found_read v (answered_view c.in-Ok.right) files c.in-Ok.ensures.exact) (wants (IsOfVerify v) t c.out_of_memory.ensures.want)

pub returns-in-Ok-drawn-clause-parts : goal.returns-in-Ok-drawn-clause-parts
returns-in-Ok-drawn-clause-parts g c =
    let r : Result Outcome Told = Ok c.in-Ok-drawn.outcome in
    verdict_said_at (verifying_view c.args.asked.now) (answered_view c.in-Ok.right) (g.F.FileSet.holding c.args.files.now) r c.in-Ok.ensures.exact c.in-Ok-drawn.ensures.parts
