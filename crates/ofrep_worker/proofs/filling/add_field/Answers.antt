use Rattle.std.proofs.Common.{◌≡◌, ℕ, List, [], ◌∷◌, ◌++◌, Option, Err, option_copied, sym, ap, ◌∙◌}
use Rattle.std.specs.Borrow.{Bor}
use Rattle.std.proofs.lemmas.List.{append-nil}
use Rattle.std.proofs.lemmas.Result.{IfOk-weaker}
use Rattle.http1.specs.Fields.{Header}
use Rattle.http_header.specs.FieldValue.{FieldValue}
use Rattle.http_server.specs.Response.{fields_of}
use Rattle.ofrep_worker.specs.Sent.{field}
use Rattle.ofrep_worker.proofs.Sending.{field_sent, field_unsent}
use Rattle.ofrep_worker.proofs.filling.add_field.Goals as goal

pub returns-in-Ok-clause-fields : goal.returns-in-Ok-clause-fields
returns-in-Ok-clause-fields c =
    let held = fields_of c.args.response.now in
    let given = ap (λ (v : Option (Bor (List ℕ))). field c.args.name (option_copied v)) c.in-Some.is in
    let sent = field_sent c.args.name c.in-Some.text.now (λ no. let bad = c.in-Ok.ensures.invalid.1 no in cc) in
    let same : (c.args.name, c.in-Ok.value.bytes) ∷ [] ≡ field c.args.name (option_copied c.args.value) =
    ap (λ (v : FieldValue). (c.args.name, v.bytes) ∷ []) c.in-Ok.ensures.ok ∙ sym sent ∙ sym given in
    IfOk-weaker c.add_header.result _ _ (λ _ h. h ∙ ap (λ (fs : List Header). held ++ fs) same) c.add_header.ensures.headers

pub returns-in-Err-Invalid-clause-fields : goal.returns-in-Err-Invalid-clause-fields
returns-in-Err-Invalid-clause-fields c =
    let held = fields_of c.args.response.now in
    let given = ap (λ (v : Option (Bor (List ℕ))). field c.args.name (option_copied v)) c.in-Some.is in
    let unsent = field_unsent c.args.name c.in-Some.text.now (c.in-Err-Invalid.ensures.invalid.0 (ap Err c.in-Err-Invalid.field-0-is)) in
    sym (append-nil held) ∙ ap (λ (fs : List Header). held ++ fs) (sym unsent ∙ sym given)
