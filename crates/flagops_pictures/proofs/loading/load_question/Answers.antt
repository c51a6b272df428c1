use Rattle.flagops_files.specs.Question.{question_view}
use Rattle.flagops_pictures.proofs.Questions.{named, no_question, question_there}
use Rattle.flagops_pictures.proofs.loading.load_question.Goals as goal

pub returns-in-Ok-clause-exact : goal.returns-in-Ok-clause-exact
returns-in-Ok-clause-exact g c = question_there c.args.floats c.args.document.now c.args.request.now c.args.evidence.now (g.F.FileSet.holding c.args.files.now) (question_view c.in-Ok.question) c.in-Ok.ensures.exact

pub returns-in-Err-clause-exact : goal.returns-in-Err-clause-exact
returns-in-Err-clause-exact g c =
    no_question c.args.floats c.args.document.now c.args.request.now c.args.evidence.now (g.F.FileSet.holding c.args.files.now) c.in-Err.refused c.of.result c.of.ensures.refusal c.in-Err.ensures.exact

pub returns-in-Err-clause-names : goal.returns-in-Err-clause-names
returns-in-Err-clause-names g c =
    named c.args.floats c.args.document.now c.args.request.now c.args.evidence.now (g.F.FileSet.holding c.args.files.now) c.in-Err.refused c.of.result c.of.ensures.refusal c.of.ensures.remark c.in-Err.ensures.first
