use Rattle.std.proofs.Common.{ap, sym, ◌∙◌, subst}
use Rattle.std.proofs.lemmas.Str.{is_utf8-from_IsUtf8}
use Rattle.flag_text.specs.Outcome.{GivesUnless}
use Rattle.flag_text.specs.declared.fault.TextFault.TheVariants.{WantOfMemory}
use Rattle.spelled_numbers.specs.Reading.{text_with_floats}
use Rattle.spelled_numbers.specs.View.{tree_view}
use Rattle.spelled_numbers.proofs.Readings.{is_no_text, no_text, not_both, within}
use Rattle.spelled_numbers.proofs.read.read_with_floats.Goals as goal

pub returns-in-Ok-clause-exact : goal.returns-in-Ok-clause-exact
returns-in-Ok-clause-exact c =
    subst (λ x. GivesUnless WantOfMemory tree_view c.text_document.result x)
    (ap text_with_floats c.in-Ok.ensures.0 ∙ within c.args.bytes.now c.args.max c.if-bytes-max.false (is_utf8-from_IsUtf8 c.args.bytes.now c.in-Ok.ensures.1))
    c.text_document.ensures.exact

pub returns-in-Ok-clause-no_text : goal.returns-in-Ok-clause-no_text
returns-in-Ok-clause-no_text c = λ h u. absurd (not_both (sym (is_utf8-from_IsUtf8 c.args.bytes.now c.in-Ok.ensures.1) ∙ u))

pub returns-in-Err-clause-exact : goal.returns-in-Err-clause-exact
returns-in-Err-clause-exact c = λ n. no_text c.args.bytes.now c.args.max c.if-bytes-max.false (is_no_text c.args.bytes.now c.in-Err.ensures)
