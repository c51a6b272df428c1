use Rattle.std.proofs.Common.{◌≡◌, option_and_then, ap, sym, ◌∙◌}
use Rattle.json.specs.Json.{document}
use Rattle.member_names.specs.Places.{place_of, told}
use Rattle.member_names.specs.Repeated.{json_of, repeats_in}
use Rattle.member_names.proofs.Documents.{json_text, no_json, told_repeats}
use Rattle.member_names.proofs.texts.repeated_place.Goals as goal

pub returns-in_default-clause-repeats : goal.returns-in_default-clause-repeats
returns-in_default-clause-repeats c = ap repeats_in (sym (no_json c.args.bytes.now (λ u. absurd (c.in_default.ensures u))))

pub returns-in_default-clause-place : goal.returns-in_default-clause-place
returns-in_default-clause-place c = ap (option_and_then place_of) (sym (no_json c.args.bytes.now (λ u. absurd (c.in_default.ensures u))))

pub returns-in-Ok-place_in_text-clause-place : goal.returns-in-Ok-place_in_text-clause-place
returns-in-Ok-place_in_text-clause-place c =
    let text = c.in-Ok.ensures in
    c.in-Ok-place_in_text.ensures.ok ∙ ap (option_and_then place_of) (ap (λ bytes. document bytes) text.0 ∙ sym (json_text c.args.bytes.now text.1))

pub returns-in-Ok-place_in_text-clause-repeats : goal.returns-in-Ok-place_in_text-clause-repeats
returns-in-Ok-place_in_text-clause-repeats c =
    let text = c.in-Ok.ensures in
    let same : told c.in-Ok-place_in_text.place ≡ option_and_then place_of (json_of c.args.bytes.now) =
    c.in-Ok-place_in_text.ensures.ok ∙ ap (option_and_then place_of) (ap (λ bytes. document bytes) text.0 ∙ sym (json_text c.args.bytes.now text.1)) in
    told_repeats (json_of c.args.bytes.now) c.in-Ok-place_in_text.place same
