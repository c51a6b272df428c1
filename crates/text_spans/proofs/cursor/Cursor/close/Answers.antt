use Rattle.std.proofs.Common.{◌≡◌, ◌∙◌, true, false, length, refl, sym, ap, arith}
use Rattle.json.specs.Reads.{token_of}
use Rattle.text_spans.specs.Place.{is_closing, is_opening}
use Rattle.text_spans.proofs.Bounds.{stand_bound}
use Rattle.text_spans.proofs.Going.{goes_none, goes_on}
use Rattle.text_spans.proofs.Lexing.{end_end, end_same}
use Rattle.text_spans.proofs.Passing.{level_closes, level_done, level_none, level_opens, level_stays}
use Rattle.text_spans.proofs.cursor.Cursor.close.Goals as goal

pub next-requires : goal.next-requires
next-requires c = record { stands = c.tokens.invariant.stands }

pub tokens-preserved-then-opens : goal.tokens-preserved-then-opens
tokens-preserved-then-opens c =
    let opens : is_opening (token_of c.in-Some.token) ≡ true = sym c.opens.ensures ∙ c.if-opens.true in
    record {
      is_open = omega (arith, c.tokens.invariant.is_open);
      level = λ rest e. level_opens c.tokens.depth (token_of c.in-Some.token) _ _ rest c.tokens.invariant.is_open c.in-Some.ensures.value.0 (c.tokens.invariant.level rest e) opens;
      stands = c.in-Some.ensures.stands;
      passed = goes_on _ _ _ _ _ _ c.tokens.invariant.passed c.in-Some.ensures.passed;
      end = end_end _ _ _ c.in-Some.ensures.end c.tokens.invariant.end;
      bound = omega (arith, c.tokens.invariant.bound, ap length c.in-Some.ensures.value.0);
    }

pub overflow_sub-depth : goal.overflow_sub-depth
overflow_sub-depth c = omega (arith, c.tokens.invariant.is_open)

pub returns-then-depth-eq0-clause-closed : goal.returns-then-depth-eq0-clause-closed
returns-then-depth-eq0-clause-closed c =
    let closes : is_closing (token_of c.in-Some.token) ≡ true = sym c.closes.ensures ∙ c.if-closes.true in
    λ rest e.
    level_done c.tokens.depth (token_of c.in-Some.token) _ _ rest c.tokens.invariant.is_open c.in-Some.ensures.value.0 (c.tokens.invariant.level rest e) _ closes c.if-depth-eq0.true c.in-Some.ensures.value.1

pub returns-then-depth-eq0-clause-end : goal.returns-then-depth-eq0-clause-end
returns-then-depth-eq0-clause-end c = end_end _ _ _ c.in-Some.ensures.end c.tokens.invariant.end

pub tokens-preserved-else-depth-eq0 : goal.tokens-preserved-else-depth-eq0
tokens-preserved-else-depth-eq0 c =
    let closes : is_closing (token_of c.in-Some.token) ≡ true = sym c.closes.ensures ∙ c.if-closes.true in
    record {
      is_open = omega (arith, c.if-depth-eq0.false);
      level = λ rest e. level_closes c.tokens.depth (token_of c.in-Some.token) _ _ rest c.tokens.invariant.is_open c.in-Some.ensures.value.0 (c.tokens.invariant.level rest e) closes;
      stands = c.in-Some.ensures.stands;
      passed = goes_on _ _ _ _ _ _ c.tokens.invariant.passed c.in-Some.ensures.passed;
      end = end_end _ _ _ c.in-Some.ensures.end c.tokens.invariant.end;
      bound = omega (arith, c.tokens.invariant.bound, ap length c.in-Some.ensures.value.0);
    }

pub tokens-preserved : goal.tokens-preserved
tokens-preserved c =
    let opens : is_opening (token_of c.in-Some.token) ≡ false = sym c.opens.ensures ∙ c.if-opens.false in
    let closes : is_closing (token_of c.in-Some.token) ≡ false = sym c.closes.ensures ∙ c.if-closes.false in
    record {
      is_open = c.tokens.invariant.is_open;
      level = λ rest e. level_stays c.tokens.depth (token_of c.in-Some.token) _ _ rest c.tokens.invariant.is_open c.in-Some.ensures.value.0 (c.tokens.invariant.level rest e) opens closes;
      stands = c.in-Some.ensures.stands;
      passed = goes_on _ _ _ _ _ _ c.tokens.invariant.passed c.in-Some.ensures.passed;
      end = end_end _ _ _ c.in-Some.ensures.end c.tokens.invariant.end;
      bound = omega (arith, c.tokens.invariant.bound, ap length c.in-Some.ensures.value.0);
    }

pub returns-clause-closed : goal.returns-clause-closed
returns-clause-closed c = λ rest e. level_none c.tokens.depth _ _ rest _ c.tokens.invariant.is_open c.in_default.ensures.value.0 (c.tokens.invariant.level rest e)

pub returns-clause-end : goal.returns-clause-end
returns-clause-end c = end_end _ _ _ c.in_default.ensures.end c.tokens.invariant.end

pub prove-unreachable-requires : goal.prove-unreachable-requires
prove-unreachable-requires c = omega (arith, c.if-prove.true, c.tokens.invariant.bound, ap length c.in-Some.ensures.value.0)

pub tokens-init : goal.tokens-init
tokens-init c = record {
  is_open = omega arith;
  level = λ rest e. e;
  stands = c.requires.stands;
  passed = goes_none _ _ _ refl;
  end = end_same _;
  bound = omega (arith, stand_bound _ _ c.requires.stands);
}

pub returns-then-depth-eq0-clause-passed : goal.returns-then-depth-eq0-clause-passed
returns-then-depth-eq0-clause-passed c = goes_on _ _ _ _ _ _ c.tokens.invariant.passed c.in-Some.ensures.passed

pub returns-clause-passed : goal.returns-clause-passed
returns-clause-passed c = goes_on _ _ _ _ _ _ c.tokens.invariant.passed c.in_default.ensures.passed
