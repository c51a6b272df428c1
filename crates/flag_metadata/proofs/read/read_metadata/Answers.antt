use Rattle.std.proofs.Common.{◌≡◌, Option, IfOk, subst, ap, ◌∙◌}
use Rattle.json.specs.Json.{Json}
use Rattle.flag_metadata.specs.Document.{if_broken, if_described}
use Rattle.flag_metadata.specs.View.{broken_view, document_view}
use Rattle.flag_metadata.specs.declared.document.Broken.{Broken}
use Rattle.flag_metadata.specs.declared.document.DocumentMetadata.{DocumentMetadata}
use Rattle.flag_metadata.proofs.Readings.{is_document, is_none}
use Rattle.flag_metadata.proofs.read.read_metadata.Goals as goal

pub returns-in-Ok-clause-members : goal.returns-in-Ok-clause-members
returns-in-Ok-clause-members c =
    subst (λ (value : Option Json). IfOk c.of_text.result (λ (r : DocumentMetadata × Broken). document_view r.0 ≡ if_described value))
    (is_document c.args.bytes.now c.in-Ok.text.now c.in-Ok.ensures.0 c.in-Ok.ensures.1) c.of_text.ensures.members

pub returns-in-Ok-clause-broken : goal.returns-in-Ok-clause-broken
returns-in-Ok-clause-broken c =
    subst (λ (value : Option Json). IfOk c.of_text.result (λ (r : DocumentMetadata × Broken). broken_view r.1 ≡ if_broken value))
    (is_document c.args.bytes.now c.in-Ok.text.now c.in-Ok.ensures.0 c.in-Ok.ensures.1) c.of_text.ensures.broken

pub returns-in-Err-clause-members : goal.returns-in-Err-clause-members
returns-in-Err-clause-members c = c.nothing.ensures.members ∙ ap if_described (is_none c.args.bytes.now c.in-Err.ensures)

pub returns-in-Err-clause-broken : goal.returns-in-Err-clause-broken
returns-in-Err-clause-broken c = c.nothing.ensures.broken ∙ ap if_broken (is_none c.args.bytes.now c.in-Err.ensures)
