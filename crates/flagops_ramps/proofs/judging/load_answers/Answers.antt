use Rattle.flagops_ramps.specs.Words.{verifying_view}
use Rattle.flagops_ramps.proofs.Loaded.{judged, unasked}
use Rattle.flagops_ramps.proofs.judging.load_answers.Goals as goal
use Rattle.flagops_ramps.proofs.Firsts.{behind, question_read, unread}
use Rattle.flagops_ramps.specs.Diagnostics.{IsOfVerify}
use Rattle.flagops_ramps.specs.Attempts.{answers_file, ramp_files}
use Rattle.flagops_files.specs.Question.{question_view}

pub returns-in-Ok-clause-exact : goal.returns-in-Ok-clause-exact
returns-in-Ok-clause-exact g c =
    judged (verifying_view c.args.asked.now) (g.F.FileSet.holding c.args.files.now) (g.F.FileSet.holding c.load_question.new.files) c.in-Ok.question c.against.result c.in-Ok.ensures.kept c.in-Ok.ensures.exact c.against.ensures.exact

pub returns-in-Err-clause-exact : goal.returns-in-Err-clause-exact
returns-in-Err-clause-exact g c = unasked (verifying_view c.args.asked.now) (g.F.FileSet.holding c.args.files.now) c.in-Err.refused c.of.result c.of.ensures.refusal c.in-Err.ensures.exact

pub returns-in-Ok-clause-names : goal.returns-in-Ok-clause-names
returns-in-Ok-clause-names g c =
    let v = verifying_view c.args.asked.now in
    behind (IsOfVerify v) c.against.result (g.F.FileSet.holding c.load_question.new.files) (g.F.FileSet.holding c.args.files.now) (λ at. ramp_files at v.rollout) (λ at. answers_file at v.ramp) c.in-Ok.ensures.kept
    (question_read v.rollout (question_view c.in-Ok.question) (g.F.FileSet.holding c.args.files.now) c.in-Ok.ensures.exact) c.against.ensures.names

pub returns-in-Err-clause-names : goal.returns-in-Err-clause-names
returns-in-Err-clause-names g c =
    let v = verifying_view c.args.asked.now in
    unread (IsOfVerify v) c.in-Err.refused c.of.result c.of.ensures.refusal c.of.ensures.remark (g.F.FileSet.holding c.args.files.now) (λ at. ramp_files at v.rollout) (λ at. answers_file at v.ramp) c.in-Err.ensures.first
