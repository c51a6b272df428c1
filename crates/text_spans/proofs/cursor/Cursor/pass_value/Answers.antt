use Rattle.std.proofs.Common.{◌≡◌, ◌∙◌, true, false, sym}
use Rattle.json.specs.Reads.{token_of}
use Rattle.text_spans.specs.Place.{is_opening}
use Rattle.text_spans.proofs.Going.{goes_on}
use Rattle.text_spans.proofs.Passing.{value_alone, value_none, value_opens}
use Rattle.text_spans.proofs.cursor.Cursor.pass_value.Goals as goal

pub returns-then-opens-clause-value : goal.returns-then-opens-clause-value
returns-then-opens-clause-value c =
    let opens : is_opening (token_of c.in-Some.token) ≡ true = sym c.opens.ensures ∙ c.if-opens.true in
    λ depth rest e. c.close.ensures.closed rest (value_opens depth (token_of c.in-Some.token) _ _ rest c.in-Some.ensures.value.0 e opens)

pub returns-else-opens-clause-value : goal.returns-else-opens-clause-value
returns-else-opens-clause-value c =
    let opens : is_opening (token_of c.in-Some.token) ≡ false = sym c.opens.ensures ∙ c.if-opens.false in
    λ depth rest e. value_alone depth (token_of c.in-Some.token) _ _ rest c.in-Some.ensures.value.0 e _ opens c.in-Some.ensures.value.1

pub returns-in_default-clause-value : goal.returns-in_default-clause-value
returns-in_default-clause-value c = λ depth rest e. value_none depth _ _ rest _ c.in_default.ensures.value.0 e

pub returns-then-opens-clause-passed : goal.returns-then-opens-clause-passed
returns-then-opens-clause-passed c = goes_on _ _ _ _ _ _ c.in-Some.ensures.passed c.close.ensures.passed
