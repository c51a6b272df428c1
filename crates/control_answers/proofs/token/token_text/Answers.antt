use Rattle.std.proofs.Common.{[], ◌∷◌, codes}
use Rattle.ofrep_requests.specs.Tag.{opaque_tag}
use Rattle.control_answers.proofs.Parts.{in_parts}
use Rattle.control_answers.proofs.token.token_text.Goals as goal

pub returns : goal.returns
returns c =
    rw (c.in_ok-extend_from_slice-7.ensures.items, c.in_ok-extend_from_slice-6.ensures.items, c.in_ok-extend_from_slice-5.ensures.items, c.in_ok-extend_from_slice-4.ensures.items, c.in_ok-extend_from_slice-3.ensures.items, c.in_ok-extend_from_slice-2.ensures.items, c.in_ok-extend_from_slice.ensures.items, c.new-token.ensures.items, c.as_bytes-2.ensures.value, c.as_bytes-3.ensures.value, c.in_ok-tag.ensures.exact, c.as_bytes.ensures.value, c.as_bytes-4.ensures.value, c.as_bytes-5.ensures.value, c.as_bytes-6.ensures.value)
    (in_parts (codes "{\"document\":\"") (opaque_tag c.args.document.now ∷ codes "\",\"plan\":" ∷ c.args.plan.now ∷ codes ",\"request\":" ∷ c.args.request.now ∷ codes "}" ∷ []))
