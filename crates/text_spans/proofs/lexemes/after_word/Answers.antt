use Rattle.std.proofs.Common.{◌∙◌, sym}
use Rattle.text_spans.proofs.Lexing.{end_at, ends_at, word_at, word_none}
use Rattle.text_spans.proofs.Passed.{no_word, word_ended, word_passed}
use Rattle.text_spans.proofs.lexemes.after_word.Goals as goal

pub returns-then-ends_number-clause-lexed : goal.returns-then-ends_number-clause-lexed
returns-then-ends_number-clause-lexed c = c.bytes.invariant.0 ∙ ends_at _ _ _ c.in-Some.ensures.cases.0 (sym c.ends_number.ensures ∙ c.if-ends_number.true)

pub bytes-preserved : goal.bytes-preserved
bytes-preserved c = (
  c.bytes.invariant.0 ∙ word_at _ _ _ c.in-Some.ensures.cases.0 (sym c.ends_number.ensures ∙ c.if-ends_number.false),
  end_at _ _ _ _ c.in-Some.ensures.cases.0 c.bytes.invariant.1,
  c.bytes.invariant.2 ∙ word_passed _ _ _ c.in-Some.ensures.cases.0 (sym c.ends_number.ensures ∙ c.if-ends_number.false),
)

pub returns-clause-lexed : goal.returns-clause-lexed
returns-clause-lexed c = c.bytes.invariant.0 ∙ word_none c.bytes.rest.now c.in_default.ensures.cases

pub returns-then-ends_number-clause-here : goal.returns-then-ends_number-clause-here
returns-then-ends_number-clause-here c = word_ended _ _ _ c.in-Some.ensures.cases.0 (sym c.ends_number.ensures ∙ c.if-ends_number.true) ∙ sym c.bytes.invariant.2

pub returns-clause-here : goal.returns-clause-here
returns-clause-here c = no_word c.bytes.rest.now c.in_default.ensures.cases ∙ sym c.bytes.invariant.2
