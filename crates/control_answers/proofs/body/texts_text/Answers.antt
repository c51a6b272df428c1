use Rattle.std.proofs.Common.{[], ◌∷◌, codes, false}
use Rattle.control_answers.specs.Body.{numbers_text, quoted, rows_text, text_or_null}
use Rattle.control_answers.specs.View.{told_view}
use Rattle.control_answers.proofs.Parts.{in_parts}
use Rattle.control_answers.proofs.body.texts_text.Goals as goal

pub returns : goal.returns
returns c =
    let a = told_view c.args.told.now in
    rw (c.in_ok-push_str-4.ensures.bytes, c.in_ok-push_string-2.ensures.ok, c.in_ok-push_str-3.ensures.bytes, c.in_ok-push_string.ensures.ok, c.in_ok-push_str-2.ensures.bytes, c.in_ok-push_text_or_null.ensures, c.in_ok-push_str.ensures.bytes, c.in_ok-push_rows.ensures, c.in_ok-text.ensures, c.as_slice.ensures.value, c.as_str.ensures.value, c.as_str-2.ensures.value)
    (in_parts (numbers_text a) (rows_text false a.switches ∷ codes "],\"document\":" ∷ text_or_null a.document ∷ codes ",\"explained\":" ∷ quoted a.explained ∷ codes ",\"picture\":" ∷ quoted a.picture ∷ codes ",\"plan\":" ∷ []))
