use Rattle.std.proofs.Common.{ap, sym, ◌∙◌, subst}
use Rattle.std.proofs.lemmas.Str.{is_utf8-from_IsUtf8}
use Rattle.flag_text.specs.Outcome.{GivesUnless}
use Rattle.flag_text.specs.Reading.{if_json, json_of}
use Rattle.flag_text.specs.View.{view}
use Rattle.flag_text.specs.declared.fault.TextFault.TheVariants.{WantOfMemory}
use Rattle.spelled_numbers.specs.Sent.{respelled}
use Rattle.spelled_numbers.proofs.Stays.{is_no_text, sent_text, sent_no_text, not_both}
use Rattle.spelled_numbers.proofs.sent_reading.read_sent_with.Goals as goal

pub returns-in-Ok-clause-exact : goal.returns-in-Ok-clause-exact
returns-in-Ok-clause-exact c =
    let is = c.as_bytes.ensures.value ∙ c.in-Ok.ensures.0 in
    subst (λ x. GivesUnless WantOfMemory view c.respelled_tree.result x)
    (ap (λ b. if_json (json_of (respelled b))) is ∙ sent_text c.args.bytes.now c.args.max c.if-bytes-max.false (is_utf8-from_IsUtf8 c.args.bytes.now c.in-Ok.ensures.1))
    c.respelled_tree.ensures.exact

pub returns-in-Ok-clause-no_text : goal.returns-in-Ok-clause-no_text
returns-in-Ok-clause-no_text c = λ h u. absurd (not_both (sym (is_utf8-from_IsUtf8 c.args.bytes.now c.in-Ok.ensures.1) ∙ u))

pub returns-in-Err-clause-exact : goal.returns-in-Err-clause-exact
returns-in-Err-clause-exact c = λ n. sent_no_text c.args.bytes.now c.args.max c.if-bytes-max.false (is_no_text c.args.bytes.now c.in-Err.ensures)
