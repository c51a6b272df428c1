use Rattle.std.proofs.Common.{◌∙◌, sym}
use Rattle.text_spans.proofs.Lexing.{closed_at, end_at, end_end, escapes_at, goes_at, string_none}
use Rattle.text_spans.proofs.Passed.{byte_passed, quote_passed, slash_passed, string_ended}
use Rattle.text_spans.proofs.lexemes.after_string.Goals as goal

pub returns-then-byte-eq34-clause-lexed : goal.returns-then-byte-eq34-clause-lexed
returns-then-byte-eq34-clause-lexed c = c.bytes.invariant.0 ∙ closed_at _ _ _ c.in-Some.ensures.cases.0 c.if-byte-eq34.true

pub bytes-preserved-then-byte-eq92 : goal.bytes-preserved-then-byte-eq92
bytes-preserved-then-byte-eq92 c = (
  c.bytes.invariant.0 ∙ escapes_at _ _ _ c.in-Some.ensures.cases.0 c.if-byte-eq92.true ∙ c.after_escaped-rest.ensures.lexed,
  end_end _ _ _ c.after_escaped-rest.ensures.end (end_at _ _ _ _ c.in-Some.ensures.cases.0 c.bytes.invariant.1),
  c.bytes.invariant.2 ∙ slash_passed _ _ _ c.in-Some.ensures.cases.0 c.if-byte-eq92.true ∙ sym c.after_escaped-rest.ensures.here,
)

pub bytes-preserved : goal.bytes-preserved
bytes-preserved c = (
  c.bytes.invariant.0 ∙ goes_at _ _ _ c.in-Some.ensures.cases.0 c.if-byte-eq34.false c.if-byte-eq92.false,
  end_at _ _ _ _ c.in-Some.ensures.cases.0 c.bytes.invariant.1,
  c.bytes.invariant.2 ∙ byte_passed _ _ _ c.in-Some.ensures.cases.0 c.if-byte-eq34.false c.if-byte-eq92.false,
)

pub returns-clause-lexed : goal.returns-clause-lexed
returns-clause-lexed c = c.bytes.invariant.0 ∙ string_none c.bytes.rest.now c.in_default.ensures.cases

pub returns-then-byte-eq34-clause-end : goal.returns-then-byte-eq34-clause-end
returns-then-byte-eq34-clause-end c = end_at _ _ _ _ c.in-Some.ensures.cases.0 c.bytes.invariant.1

pub returns-then-byte-eq34-clause-here : goal.returns-then-byte-eq34-clause-here
returns-then-byte-eq34-clause-here c = sym (c.bytes.invariant.2 ∙ quote_passed _ _ _ c.in-Some.ensures.cases.0 c.if-byte-eq34.true)

pub returns-clause-here : goal.returns-clause-here
returns-clause-here c = sym (c.bytes.invariant.2 ∙ string_ended c.bytes.rest.now c.in_default.ensures.cases)
