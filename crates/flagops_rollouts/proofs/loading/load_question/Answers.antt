use Rattle.flagops_files.specs.Question.{question_view}
use Rattle.flagops_rollouts.proofs.Loaded.{no_question, question_there}
use Rattle.flagops_files.specs.Question as questions
use Rattle.flagops_rollouts.proofs.Attempted.{lifted}
use Rattle.flagops_rollouts.proofs.loading.load_question.Goals as goal

pub returns-in-Ok-clause-exact : goal.returns-in-Ok-clause-exact
returns-in-Ok-clause-exact g c = question_there c.args.floats (g.F.FileSet.holding c.args.files.now) c.args.document.now c.args.request.now c.args.evidence.now (question_view c.in-Ok.question) c.in-Ok.ensures.exact

pub returns-in-Err-clause-exact : goal.returns-in-Err-clause-exact
returns-in-Err-clause-exact g c =
    no_question c.args.floats (g.F.FileSet.holding c.args.files.now) c.args.document.now c.args.request.now c.args.evidence.now c.in-Err.refused c.of.result c.of.ensures.refusal c.in-Err.ensures.exact

pub returns-in-Err-clause-first : goal.returns-in-Err-clause-first
returns-in-Err-clause-first g c =
    lifted (g.F.FileSet.holding c.args.files.now) (λ at. questions.question_attempts c.args.floats at c.args.document.now c.args.request.now c.args.evidence.now) c.in-Err.refused c.of.result c.of.ensures.refusal c.of.ensures.remark
    c.in-Err.ensures.first
