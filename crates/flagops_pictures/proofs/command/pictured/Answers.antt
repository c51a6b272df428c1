use Rattle.std.proofs.Common.{Err, option_map, refl, string_bytes}
use Rattle.flagops_files.specs.Question.{question_view}
use Rattle.plan_text.specs.Answer.{planned_view}
use Rattle.flagops_pictures.proofs.Pictures.{drawn_so}
use Rattle.flagops_pictures.proofs.command.pictured.Goals as goal

pub returns-in-Ok-clause-exact : goal.returns-in-Ok-clause-exact
returns-in-Ok-clause-exact g c =
    drawn_so (option_map (λ m. m.number) c.args.asked.now.refine) (question_view c.args.question.now) (planned_view c.args.planned.now) (string_bytes c.in-Ok.text) c.told.result c.in-Ok.ensures c.told.ensures.exact

pub returns-in-Err-clause-exact : goal.returns-in-Err-clause-exact
returns-in-Err-clause-exact g c = λ no_want. (Err c.in-Err.fault, c.in-Err.ensures, refl)
