use Rattle.std.proofs.Common.{◌≡◌, List, [], ◌∷◌, ◌++◌, Err, codes, sym, ap, ◌∙◌}
use Rattle.std.proofs.lemmas.List.{append-nil}
use Rattle.std.proofs.lemmas.Result.{IfOk-weaker}
use Rattle.http1.specs.Fields.{Header}
use Rattle.http_header.specs.FieldValue.{FieldValue}
use Rattle.http_server.specs.Response.{fields_of}
use Rattle.control_desk.specs.Sent.{field}
use Rattle.control_desk.proofs.Fields.{field_sent, field_unsent}
use Rattle.control_desk.proofs.giving.add_tag.Goals as goal

pub returns-in-Ok-clause-fields : goal.returns-in-Ok-clause-fields
returns-in-Ok-clause-fields c =
    let held = fields_of c.args.response.now in
    let text = c.args.tag.now in
    let sent = field_sent (codes "etag") text (λ no. let bad = c.in-Ok.ensures.invalid.1 no in cc) in
    let same : (codes "etag", c.in-Ok.value.bytes) ∷ [] ≡ field (codes "etag") text =
    ap (λ (v : FieldValue). (codes "etag", v.bytes) ∷ []) c.in-Ok.ensures.ok ∙ sym sent in
    IfOk-weaker c.add_header.result _ _ (λ _ h. h ∙ ap (λ (fs : List Header). held ++ fs) same) c.add_header.ensures.headers

pub returns-in-Err-Invalid-clause-fields : goal.returns-in-Err-Invalid-clause-fields
returns-in-Err-Invalid-clause-fields c =
    let held = fields_of c.args.response.now in
    let unsent = field_unsent (codes "etag") c.args.tag.now (c.in-Err-Invalid.ensures.invalid.0 (ap Err c.in-Err-Invalid.field-0-is)) in
    sym (append-nil held) ∙ ap (λ (fs : List Header). held ++ fs) (sym unsent)
