-- the text is added piece by piece
use Rattle.std.proofs.Common.{◌++◌, codes, map, string_bytes, ap, ap₂, ◌∙◌}
use Rattle.flag_text.specs.Printing.{text_of}
use Rattle.flag_text.specs.Shape.{text}
use Rattle.flag_text.specs.View.{view}
use Rattle.flag_defs.specs.Spelled.{value_spelled}
use Rattle.flag_resolve.specs.Printing.{list_text, text_or_null}
use Rattle.flag_resolve.specs.Views.{reached_shape}
use Rattle.flag_resolve.proofs.Items.{resolution_pushed}
use Rattle.flag_resolve.proofs.print.push_resolution_spelled.Goals as goal

pub returns : goal.returns
returns c =
    let bytes = value_spelled c.args.spelled (view c.args.resolution.now.value) in
    let code = c.in_ok-push_word.ensures ∙ ap₂ (λ b w. b ++ text_of (text_or_null w)) c.in_ok-push_str.ensures.bytes c.word_of.ensures in
    let reached_front = c.in_ok-push_str-2.ensures.bytes ∙ ap (λ b. b ++ codes ",\"reached\":") code in
    let reached = c.in_ok-push_reached.ensures ∙ ap₂ (λ b rs. b ++ list_text (map reached_shape rs)) reached_front c.as_slice.ensures.value in
    let reason_front = c.in_ok-push_str-3.ensures.bytes ∙ ap (λ b. b ++ codes ",\"reason\":") reached in
    let reason = c.in_ok-push_string.ensures.ok ∙ ap₂ (λ b w. b ++ text_of (text w)) reason_front c.as_str.ensures in
    let value_front = c.in_ok-push_str-4.ensures.bytes ∙ ap (λ b. b ++ codes ",\"value\":") reason in
    let value = c.in_ok-push_spelled.ensures ∙ ap (λ b. b ++ bytes) value_front in
    let variant_front = c.in_ok-push_str-5.ensures.bytes ∙ ap (λ b. b ++ codes ",\"variant\":") value in
    let variant = c.in_ok-push_word-2.ensures ∙ ap₂ (λ b w. b ++ text_of (text_or_null w)) variant_front c.name_of.ensures in
    c.in_ok-push_str-6.ensures.bytes ∙ ap (λ b. b ++ codes "}") variant ∙ resolution_pushed (string_bytes c.args.out.now) bytes c.args.resolution.now
