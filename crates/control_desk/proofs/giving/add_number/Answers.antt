use Rattle.std.proofs.Common.{ℕ, List, [], ◌∷◌, ◌++◌, codes, ap, ◌∙◌}
use Rattle.std.proofs.lemmas.Result.{IfOk-weaker}
use Rattle.http_header.specs.FieldValue.{FieldValue}
use Rattle.http_server.specs.Response.{fields_of}
use Rattle.control_desk.proofs.giving.add_number.Goals as goal

pub returns-clause-fields : goal.returns-clause-fields
returns-clause-fields c =
    let held = fields_of c.args.response.now in
    let named = ap (λ (n : List ℕ). held ++ (n, c.in_ok-value.value.bytes) ∷ []) c.from_static.ensures in
    let valued = ap (λ (v : FieldValue). held ++ (codes "x-snapshot", v.bytes) ∷ []) c.in_ok-value.ensures in
    IfOk-weaker c.add_header.result _ _ (λ _ h. h ∙ (named ∙ valued)) c.add_header.ensures.headers
