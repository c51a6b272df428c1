use Rattle.flagops_ramps.specs.Words.{ramping_view}
use Rattle.flagops_ramps.proofs.Loaded.{loaded, unloaded}
use Rattle.flagops_ramps.proofs.Noted.{ramp_said_at}
use Rattle.flagops_ramps.proofs.ramping.planned.Goals as goal
use Rattle.flagops_ramps.proofs.Firsts.{made, question_read, unread}
use Rattle.flagops_ramps.specs.Diagnostics.{IsOfRamp}
use Rattle.flagops_ramps.specs.Attempts.{ramp_files}
use Rattle.std.proofs.Common.{[]}
use Rattle.flagops_files.specs.Question.{question_view}

pub returns-in-Ok-clause-exact : goal.returns-in-Ok-clause-exact
returns-in-Ok-clause-exact g c =
    loaded (ramping_view c.args.asked.now) (g.F.FileSet.holding c.args.files.now) c.in-Ok.question c.answer.result c.in-Ok.ensures.exact c.answer.ensures.exact

pub returns-in-Err-clause-exact : goal.returns-in-Err-clause-exact
returns-in-Err-clause-exact g c =
    unloaded (ramping_view c.args.asked.now) (g.F.FileSet.holding c.args.files.now) c.in-Err.refused c.of.result c.of.ensures.refusal c.in-Err.ensures.exact

pub returns-in-Ok-clause-names : goal.returns-in-Ok-clause-names
returns-in-Ok-clause-names g c =
    let a = ramping_view c.args.asked.now in
    made (IsOfRamp a) c.answer.result (g.F.FileSet.holding c.args.files.now) (λ at. ramp_files at a) (question_read a (question_view c.in-Ok.question) (g.F.FileSet.holding c.args.files.now) c.in-Ok.ensures.exact) c.answer.ensures.names

pub returns-in-Err-clause-names : goal.returns-in-Err-clause-names
returns-in-Err-clause-names g c =
    let a = ramping_view c.args.asked.now in
    unread (IsOfRamp a) c.in-Err.refused c.of.result c.of.ensures.refusal c.of.ensures.remark (g.F.FileSet.holding c.args.files.now) (λ at. ramp_files at a) (λ at. []) c.in-Err.ensures.first

pub returns-in-Ok-clause-parts : goal.returns-in-Ok-clause-parts
returns-in-Ok-clause-parts g c =
    ramp_said_at (ramping_view c.args.asked.now) (question_view c.in-Ok.question) (g.F.FileSet.holding c.args.files.now) c.answer.result c.in-Ok.ensures.exact c.answer.ensures.parts
