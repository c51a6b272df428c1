use Rattle.std.proofs.Common.{[], ◌∷◌, codes, Err, sym, ap, ◌∙◌}
use Rattle.http_header.specs.FieldValue.{FieldValue}
use Rattle.service_layers.specs.Date.{date_fields}
use Rattle.service_layers.proofs.Fields.{date_sent, date_unsent}
use Rattle.service_layers.proofs.date.value_of.Goals as goal

pub returns-in-Ok : goal.returns-in-Ok
returns-in-Ok c =
    let text = c.to_bytes-text.result in
    ap (λ (v : FieldValue). (codes "date", v.bytes) ∷ []) c.in-Ok.ensures.ok ∙ sym (date_sent text (λ no. let bad = c.in-Ok.ensures.invalid.1 no in cc)) ∙ ap date_fields c.to_bytes-text.ensures

pub returns-in-Err-Invalid : goal.returns-in-Err-Invalid
returns-in-Err-Invalid c =
    sym (date_unsent c.to_bytes-text.result (c.in-Err-Invalid.ensures.invalid.0 (ap Err c.in-Err-Invalid.field-0-is))) ∙ ap date_fields c.to_bytes-text.ensures
