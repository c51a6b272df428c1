use Rattle.std.proofs.Common.{◌≡◌, ◌∙◌, Err, ap, arith, length}
use Rattle.std.proofs.lemmas.List.{length-map}
use Rattle.std.specs.Prelude.{vec_len}
use Rattle.flagops_streams.specs.Documents.{Answer, documents_in, texts_of}
use Rattle.flagops_streams.specs.Loading.{documents_view}
use Rattle.flagops_service.specs.Starting.{numbered}
use Rattle.flagops_service.specs.Words.{answering_view, seats_of}
use Rattle.flagops_service.proofs.Numbered.{numbered_texts}
use Rattle.flagops_service.proofs.Started.{not_started, started_as}
use Rattle.flagops_service.proofs.command.answer_documents.Goals as goal

-- what the documents come to, their texts do
pub returns-in-Ok : goal.returns-in-Ok
returns-in-Ok g c =
    let a = answering_view c.args.answering.now in
    let started = c.answer_numbered.ensures in
    (started.0, started_as (seats_of a) (numbered (texts_of c.args.texts.items)) (documents_view c.in-Ok.documents) started.0 c.in-Ok.ensures started.1, started.2)

pub returns-in-Err : goal.returns-in-Err
returns-in-Err g c =
    let a = answering_view c.args.answering.now in
    let answer : Answer = Err c.in-Err.refusal in
    (answer, not_started (seats_of a) (numbered (texts_of c.args.texts.items)) c.in-Err.refusal c.in-Err.ensures, c.refuse_and_tell.ensures)

-- what is numbered has these texts
pub answer_numbered-requires-clause-numbered : goal.answer_numbered-requires-clause-numbered
answer_numbered-requires-clause-numbered g c κs within =
    ap numbered (numbered_texts (texts_of c.args.texts.items) (documents_view c.in-Ok.documents) c.in-Ok.ensures) ∙ c.in-Ok.ensures

-- and as many
pub answer_numbered-requires-clause-some : goal.answer_numbered-requires-clause-some
answer_numbered-requires-clause-some g c κs within =
    let d = c.in-Ok.documents in
    let texts = c.args.texts in
    let same : length (texts_of d.texts.items) ≡ length (texts_of texts.items) = ap length (numbered_texts (texts_of texts.items) (documents_view d) c.in-Ok.ensures) in
    omega (arith, c.requires.some, same, d.texts.ok.0, texts.ok.0, length-map d.texts.items (λ t. t.items), length-map texts.items (λ t. t.items))

pub answer_numbered-requires-clause-each : goal.answer_numbered-requires-clause-each
answer_numbered-requires-clause-each g c κs within =
    let d = c.in-Ok.documents in
    let texts = c.args.texts in
    let same : length (texts_of d.texts.items) ≡ length (texts_of texts.items) = ap length (numbered_texts (texts_of texts.items) (documents_view d) c.in-Ok.ensures) in
    let count : documents_in d ≡ vec_len texts = omega (arith, same, d.texts.ok.0, texts.ok.0, length-map d.texts.items (λ t. t.items), length-map texts.items (λ t. t.items)) in
    count ∙ c.requires.each
