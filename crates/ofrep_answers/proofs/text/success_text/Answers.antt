use Rattle.std.proofs.Common.{◌++◌, codes, ap, ◌∙◌}
use Rattle.flag_defs.specs.Spelled.{value_spelled}
use Rattle.flag_metadata.specs.Merged.{flag_metadata}
use Rattle.flag_metadata.specs.View.{metadata_view}
use Rattle.flag_text.specs.Printing.{text_of}
use Rattle.flag_text.specs.Shape.{text}
use Rattle.flag_text.specs.View.{view}
use Rattle.ofrep_answers.proofs.BodyTexts.{success_parts}
use Rattle.ofrep_answers.proofs.text.success_text.Goals as goal

pub returns : goal.returns
returns c =
    let metadata = flag_metadata (metadata_view c.args.metadata.now) c.args.key.now in
    let begun = c.in_ok-push_str.ensures.bytes ∙ ap (λ b. b ++ codes "{\"key\":") c.in_ok-text.ensures.bytes in
    let key = c.in_ok-push_string.ensures.ok ∙ ap (λ b. b ++ text_of (text c.args.key.now)) begun in
    let after_key = c.in_ok-push_str-2.ensures.bytes ∙ ap (λ b. b ++ codes ",\"metadata\":") key in
    let described = c.in_ok-push_flag.ensures ∙ ap (λ b. b ++ metadata) after_key in
    let after_metadata = c.in_ok-push_str-3.ensures.bytes ∙ ap (λ b. b ++ codes ",\"reason\":") described in
    let reason = c.in_ok-push_string-2.ensures.ok ∙ ap (λ b. b ++ text_of (text c.as_str.result.now)) after_metadata in
    let after_reason = c.in_ok-push_str-4.ensures.bytes ∙ ap (λ b. b ++ codes ",\"value\":") reason in
    let value = c.in_ok-push_spelled.ensures ∙ ap (λ b. b ++ value_spelled c.args.spelled (view c.args.value.now)) after_reason in
    let after_value = c.in_ok-push_str-5.ensures.bytes ∙ ap (λ b. b ++ codes ",\"variant\":") value in
    let variant = c.in_ok-push_string-3.ensures.ok ∙ ap (λ b. b ++ text_of (text c.args.variant.now)) after_value in
    c.in_ok-push_str-6.ensures.bytes ∙ ap (λ b. b ++ codes "}") variant
    ∙ ap (λ word. (((((((((codes "{\"key\":" ++ text_of (text c.args.key.now)) ++ codes ",\"metadata\":") ++ metadata) ++ codes ",\"reason\":") ++ text_of (text word)) ++ codes ",\"value\":")
    ++ value_spelled c.args.spelled (view c.args.value.now)) ++ codes ",\"variant\":") ++ text_of (text c.args.variant.now)) ++ codes "}") c.as_str.ensures
    ∙ success_parts c.args.key.now c.args.reason (view c.args.value.now) c.args.variant.now c.args.spelled metadata
