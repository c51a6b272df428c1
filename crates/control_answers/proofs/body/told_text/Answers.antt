use Rattle.std.proofs.Common.{◌≡◌, ◌∙◌, ℕ, [], ◌∷◌, Vec, Global, ap, codes}
use Rattle.control_answers.specs.Body.{texts_text}
use Rattle.control_answers.specs.View.{told_view}
use Rattle.control_answers.proofs.Parts.{in_parts}
use Rattle.control_answers.proofs.body.told_text.Goals as goal

pub returns : goal.returns
returns c =
    let a = told_view c.args.told.now in
    let front : c.into_bytes-body.result.items ≡ texts_text a = ap (λ (v : Vec ℕ Global). v.items) c.into_bytes-body.ensures.value ∙ c.in_ok-text.ensures in
    rw (c.in_ok-extend_from_slice-4.ensures.items, c.in_ok-extend_from_slice-3.ensures.items, c.in_ok-extend_from_slice-2.ensures.items, c.in_ok-extend_from_slice.ensures.items, front, c.as_slice.ensures.value, c.as_bytes.ensures.value, c.as_slice-2.ensures.value, c.as_bytes-2.ensures.value)
    (in_parts (texts_text a) (a.plan ∷ codes ",\"token\":" ∷ a.token ∷ codes "}\n" ∷ []))
