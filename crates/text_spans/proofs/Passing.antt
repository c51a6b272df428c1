-- What is taken of the tokens, a token at a time.
use Rattle.std.proofs.Common.{◌≡◌, ◌≢◌, ℕ, ◌+◌, ◌-◌, ◌<◌, true, false, List, [], ◌∷◌, Some, sym, ap, ◌∙◌}
use Rattle.json.specs.Token.{Token}
use Rattle.json.specs.Lex.{after_value, between, lex, punctuate}
use Rattle.json.specs.Json.{skip_value}
use Rattle.text_spans.specs.Place.{Left, closed, is_closing, is_opening, place_after}
use Rattle.text_spans.proofs.Balanced.{all_closed, bracket_closed, closes_after, closes_one, no_tokens, none_open, one_token, opens_more, stays}
use Rattle.text_spans.proofs.Stepping.{next_place}

-- what is left of the text after the value
abbrev pub Passed : List Token → List Token → List ℕ → Type 0
Passed new rest after = (new ≡ rest) × (new ≡ punctuate after_value (lex between after))

at_value_end : (t : Token) (new : List Token) (after : List ℕ) → place_after t ≡ after_value → t ≢ Token.bad → Left t new (λ p. punctuate p (lex between after)) → new ≡ punctuate after_value (lex between after)
at_value_end t new after place good left = next_place t new after good left ∙ ap (λ p. punctuate p (lex between after)) place

-- ---- the brackets that are open

module _ (n : ℕ) (t : Token) (old new rest : List Token) (some : 0 < n) (is : old ≡ t ∷ new) (level : closed n old ≡ Some rest) where
  on_opening : is_opening t ≡ true → closed (n + 1) new ≡ Some rest
  on_opening opens = sym (opens_more n t new some opens) ∙ ap (closed n) (sym is) ∙ level

  on_closing : is_closing t ≡ true → closed (n - 1) new ≡ Some rest
  on_closing closes = sym (closes_one n t new some closes) ∙ ap (closed n) (sym is) ∙ level

  pub level_opens : is_opening t ≡ true → closed (n + 1) new ≡ Some rest
  level_opens opens = on_opening opens

  pub level_closes : is_closing t ≡ true → closed (n - 1) new ≡ Some rest
  level_closes closes = on_closing closes

  pub level_stays : is_opening t ≡ false → is_closing t ≡ false → closed n new ≡ Some rest
  level_stays opens closes = sym (stays n t new some opens closes) ∙ ap (closed n) (sym is) ∙ level

  -- the last of them
  pub level_done : (after : List ℕ) → is_closing t ≡ true → n - 1 ≡ 0 → Left t new (λ p. punctuate p (lex between after)) → Passed new rest after
  level_done after closes last left =
      let place : (place_after t ≡ after_value) × (t ≢ Token.bad) = closes_after t closes in
      (all_closed new rest (ap (λ m. closed m new) (sym last) ∙ on_closing closes), at_value_end t new after place.0 place.1 left)

pub level_none : (n : ℕ) (old new rest : List Token) (after : List ℕ) → 0 < n → old ≡ [] → closed n old ≡ Some rest → Passed new rest after
level_none n old new rest after some none level = absurd (none_open n rest some (ap (closed n) (sym none) ∙ level))

-- ---- a value

module _ (d : ℕ) (t : Token) (old new rest : List Token) (is : old ≡ t ∷ new) (value : skip_value d old ≡ Some rest) where
  there : skip_value d (t ∷ new) ≡ Some rest
  there = ap (skip_value d) (sym is) ∙ value

  pub value_opens : is_opening t ≡ true → closed 1 new ≡ Some rest
  value_opens opens = bracket_closed d t new rest opens there

  pub value_alone : (after : List ℕ) → is_opening t ≡ false → Left t new (λ p. punctuate p (lex between after)) → Passed new rest after
  value_alone after opens left =
      let one : (new ≡ rest) × (place_after t ≡ after_value) × (t ≢ Token.bad) = one_token d t new rest opens there in
      (one.0, at_value_end t new after one.1 one.2 left)

pub value_none : (d : ℕ) (old new rest : List Token) (after : List ℕ) → old ≡ [] → skip_value d old ≡ Some rest → Passed new rest after
value_none d old new rest after none value = absurd (no_tokens d rest (ap (skip_value d) (sym none) ∙ value))
