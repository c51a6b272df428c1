use Rattle.std.proofs.Common.{sym}
use Rattle.std.proofs.lemmas.List.{length-map}
use Rattle.flagops_service.specs.Words.{answering_view}
use Rattle.flagops_service.proofs.Started.{answers_asked, serves_asked}
use Rattle.flagops_service.proofs.command.ofrep.Goals as goal

pub returns-in-Ok-clause-answers : goal.returns-in-Ok-clause-answers
returns-in-Ok-clause-answers g c = answers_asked _ _ _ _ _ (answering_view c.in-Ok.answering) _ c.console.view_is c.in-Ok.ensures.ok c.answer_asked.ensures.answers

pub returns-in-Ok-clause-serves : goal.returns-in-Ok-clause-serves
returns-in-Ok-clause-serves g c = serves_asked _ _ _ _ _ (answering_view c.in-Ok.answering) _ c.console.view_is c.in-Ok.ensures.ok (sym (length-map c.in-Ok.answering.documents.items (λ d. d.now))) c.answer_asked.ensures.serves
