use Rattle.std.proofs.Common.{◌≡◌, ◌∙◌, ℕ, Bool, true, false, List, ◌++◌, ap, ap₂, codes, refl, subst, sym}
use Rattle.std.specs.Prelude.{OnOk}
use Rattle.http1.specs.Fields.{Header}
use Rattle.http_server.specs.Response.{IsResponse, fields_of}
use Rattle.http_server.specs.declared.response.Response.{Response}
use Rattle.control_answers.specs.Held.{field_view, is_held}
use Rattle.control_answers.specs.Snapshot.{Snapshot}
use Rattle.control_desk.specs.Bodies.{TellsDocumentIf, tag_of}
use Rattle.control_desk.specs.Held.{held_view}
use Rattle.control_desk.specs.Sent.{field, number_field, type_field}
use Rattle.control_desk.specs.declared.giving.Media.TheVariants.{Json}
use Rattle.control_desk.proofs.telling.tell_document.Goals as goal

-- whoever asks has it
pub returns-then-tag : goal.returns-then-tag
returns-then-tag c =
    let s = held_view c.args.held.now in
    let asked = field_view c.args.field in
    let document : c.snapshot-snapshot.result.document.now ≡ s.document = ap (λ (s : Snapshot). s.document) c.snapshot-snapshot.ensures in
    let is : is_held s.document asked ≡ true = ap (λ (d : List ℕ). is_held d asked) (sym document) ∙ (sym c.in_ok-tag.ensures.held ∙ c.if-tag.true) in
    let tag : c.as_str.result.now ≡ tag_of s.document = c.as_str.ensures.value ∙ (c.in_ok-tag.ensures.tag ∙ ap tag_of document) in
    let tagged : fields_of c.add_tag.new.response ≡ field (codes "etag") (tag_of s.document) =
    c.in_ok-add_tag.ensures.fields ∙ (ap (λ (fs : List Header). fs ++ field (codes "etag") c.as_str.result.now) c.requires.headers ∙ ap (field (codes "etag")) tag) in
    let response : Response = record { status = 304; headers = c.add_tag.new.response.headers; body = c.add_tag.new.response.body } in
    subst (λ (b : Bool). TellsDocumentIf b s response) (sym is) (record { status = refl; headers = tagged; body = ap (λ b. b.items) c.in_ok-add_tag.ensures.body ∙ c.requires.body })

-- it is told
pub returns : goal.returns
returns c =
    let s = held_view c.args.held.now in
    let asked = field_view c.args.field in
    let response = c.finish.new.response in
    let document : c.snapshot-snapshot.result.document.now ≡ s.document = ap (λ (s : Snapshot). s.document) c.snapshot-snapshot.ensures in
    let number : c.snapshot-snapshot.result.number ≡ s.number = ap (λ (s : Snapshot). s.number) c.snapshot-snapshot.ensures in
    let is : is_held s.document asked ≡ false = ap (λ (d : List ℕ). is_held d asked) (sym document) ∙ (sym c.in_ok-tag.ensures.held ∙ c.if-tag.false) in
    let tag : c.as_str.result.now ≡ tag_of s.document = c.as_str.ensures.value ∙ (c.in_ok-tag.ensures.tag ∙ ap tag_of document) in
    let tagged : fields_of c.add_tag.new.response ≡ field (codes "etag") (tag_of s.document) =
    c.in_ok-add_tag.ensures.fields ∙ (ap (λ (fs : List Header). fs ++ field (codes "etag") c.as_str.result.now) c.requires.headers ∙ ap (field (codes "etag")) tag) in
    let numbered : fields_of c.add_number.new.response ≡ field (codes "etag") (tag_of s.document) ++ number_field s.number =
    c.in_ok-add_number.ensures.fields ∙ ap₂ (λ (fs : List Header) (n : ℕ). fs ++ number_field n) tagged number in
    subst (λ (b : Bool). OnOk c.finish.result (TellsDocumentIf b s response)) (sym is)
    (subst (λ (fs : List Header). OnOk c.finish.result (IsResponse 200 (fs ++ type_field Json) s.document response)) numbered
    (subst (λ (d : List ℕ). OnOk c.finish.result (IsResponse 200 (fields_of c.add_number.new.response ++ type_field Json) d response)) (c.as_bytes-document.ensures.value ∙ document) c.finish.ensures))
