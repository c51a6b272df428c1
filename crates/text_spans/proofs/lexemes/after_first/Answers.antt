use Rattle.std.proofs.Common.{◌∙◌, sym}
use Rattle.text_spans.proofs.Marks.{bracket, string_at, word_from}
use Rattle.text_spans.proofs.Passed.{bracket_passed, string_passed, token_passed}
use Rattle.text_spans.proofs.lexemes.after_first.Goals as goal

pub returns-then-ends_number-clause-one : goal.returns-then-ends_number-clause-one
returns-then-ends_number-clause-one c = λ m. bracket c.args.byte c.args.text.now (sym c.ends_number.ensures ∙ c.if-ends_number.true) m

pub returns-then-byte-eq34-clause-one : goal.returns-then-byte-eq34-clause-one
returns-then-byte-eq34-clause-one c = λ m. string_at c.args.byte c.args.text.now _ c.if-byte-eq34.true c.after_string.ensures.lexed

pub returns-else-byte-eq34-clause-one : goal.returns-else-byte-eq34-clause-one
returns-else-byte-eq34-clause-one c = λ m. word_from c.args.byte c.args.text.now _ (sym c.ends_number.ensures ∙ c.if-ends_number.false) c.if-byte-eq34.false c.after_word.ensures.lexed

pub returns-then-ends_number-clause-here : goal.returns-then-ends_number-clause-here
returns-then-ends_number-clause-here c = bracket_passed c.args.byte c.args.text.now (sym c.ends_number.ensures ∙ c.if-ends_number.true)

pub returns-then-byte-eq34-clause-here : goal.returns-then-byte-eq34-clause-here
returns-then-byte-eq34-clause-here c = c.after_string.ensures.here ∙ string_passed c.args.byte c.args.text.now (sym c.ends_number.ensures ∙ c.if-ends_number.false) c.if-byte-eq34.true

pub returns-else-byte-eq34-clause-here : goal.returns-else-byte-eq34-clause-here
returns-else-byte-eq34-clause-here c = c.after_word.ensures.here ∙ token_passed c.args.byte c.args.text.now (sym c.ends_number.ensures ∙ c.if-ends_number.false) c.if-byte-eq34.false
