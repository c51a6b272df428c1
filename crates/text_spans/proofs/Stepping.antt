-- A token that is taken: where the tokens stand after it, and where a value begins.
use Rattle.std.proofs.Common.{◌≡◌, ◌≢◌, inl, inr, ℕ, zero, suc, Bool, true, false, List, [], ◌∷◌, length, Option, Some, None, MatchOption, refl, sym, ap, ◌∙◌}
use Rattle.json.specs.Token.{Token, begin_object, end_object, begin_array, end_array, key, string, number, boolean, null, bad}
use Rattle.json.specs.Lex.{Lexeme, token, between, lex, Place, fresh, after_value, after_comma, after_key, begins_colon, if_allowed, may_begin, may_close, place_token, punctuate, tokens}
use Rattle.json.specs.Json.{Parse, Items, Members, items, members, value_with, value, skip_value}
use Rattle.json.proofs.Grammar.{left}
use Rattle.json.specs.Reads.{token_of}
use Rattle.json.specs.declared.token.Token.{Token as Given}
use Rattle.text_spans.specs.Place.{IsOver, Left, Stand, place_after}

taken : (t u : Token) (new : List Token) (k : Place → List Token) → t ∷ k (place_after t) ≡ u ∷ new → Left u new k
taken t u new k e = let same : t ≡ u = cc in let rest : k (place_after t) ≡ new = cc in inl (sym rest ∙ ap (λ x. k (place_after x)) same)

fault : (u : Token) (new : List Token) (k : Place → List Token) → bad ∷ [] ≡ u ∷ new → Left u new k
fault u new k e = inr (cc, cc)

allowed : (b : Bool) (t u : Token) (new : List Token) (k : Place → List Token) (next : Place) → next ≡ place_after t → if_allowed b t k next ≡ u ∷ new → Left u new k
allowed true t u new k next is e = taken t u new k (ap (λ p. t ∷ k p) (sym is) ∙ e)
allowed false t u new k next is e = fault u new k e

stepped : (p : Place) (t : Token) (b : Bool) (u : Token) (new : List Token) (k : Place → List Token) → place_token p t b k ≡ u ∷ new → Left u new k
stepped p begin_object b u new k e = allowed (may_begin p) begin_object u new k fresh refl e
stepped p end_object b u new k e = allowed (may_close p) end_object u new k after_value refl e
stepped p begin_array b u new k e = allowed (may_begin p) begin_array u new k fresh refl e
stepped p end_array b u new k e = allowed (may_close p) end_array u new k after_value refl e
stepped p (key s) b u new k e = fault u new k e
stepped p (string s) true u new k e = allowed (may_begin p) (key s) u new k after_key refl e
stepped p (string s) false u new k e = allowed (may_begin p) (string s) u new k after_value refl e
stepped p (number s) b u new k e = allowed (may_begin p) (number s) u new k after_value refl e
stepped p (boolean v) b u new k e = allowed (may_begin p) (boolean v) u new k after_value refl e
stepped p null b u new k e = allowed (may_begin p) null u new k after_value refl e
stepped p bad b u new k e = fault u new k e

pub at_token : (p : Place) (t : Token) (ls : List Lexeme) → punctuate p (token t ∷ ls) ≡ place_token p t (begins_colon ls) (λ next. punctuate next ls)
unfolding punctuate
at_token fresh t ls = refl
at_token after_value t ls = refl
at_token after_comma t ls = refl
at_token after_key t ls = refl

over : (p : Place) → IsOver (punctuate p [])
unfolding punctuate
over fresh = inl refl
over after_value = inl refl
over after_comma = inr refl
over after_key = inr refl

over_next : (ts : List Token) (u : Token) (new : List Token) → IsOver ts → ts ≡ u ∷ new → (u ≡ bad) × (new ≡ [])
over_next ts u new (inl none) e = cc
over_next ts u new (inr one) e = let is : bad ∷ [] ≡ u ∷ new = sym one ∙ e in (cc, cc)

-- the text begins with a token, after which the other stands; or nothing is left
abbrev pub Lexed : List ℕ → List ℕ → Type 0
Lexed here after = here ≢ [] → (t : Token) × (lex between here ≡ token t ∷ lex between after)

none_lexed : lex between [] ≡ []
unfolding lex
none_lexed = refl

pub next_left : (ts : List Token) (here after : List ℕ) (u : Token) (new : List Token) → Stand ts here → Lexed here after → ts ≡ u ∷ new → Left u new (λ p. punctuate p (lex between after))
next_left ts here after u new (inr ends) lexed e = inr (over_next ts u new ends e)
next_left ts [] after u new (inl (p, is)) lexed e = inr (over_next (punctuate p []) u new (over p) (ap (punctuate p) (sym none_lexed) ∙ sym is ∙ e))
next_left ts (x ∷ xs) after u new (inl (p, is)) lexed e =
    let first : (t : Token) × (lex between (x ∷ xs) ≡ token t ∷ lex between after) = lexed (λ never. cc) in
    stepped p first.0 (begins_colon (lex between after)) u new (λ q. punctuate q (lex between after)) (sym (at_token p first.0 (lex between after)) ∙ ap (punctuate p) (sym first.1) ∙ sym is ∙ e)

-- where the tokens stand after it
pub next_stands : (u : Token) (new : List Token) (after : List ℕ) → Left u new (λ p. punctuate p (lex between after)) → Stand new after
next_stands u new after (inl is) = inl (place_after u, is)
next_stands u new after (inr (e, none)) = inr (inl none)

pub next_place : (u : Token) (new : List Token) (after : List ℕ) → u ≢ bad → Left u new (λ p. punctuate p (lex between after)) → new ≡ punctuate (place_after u) (lex between after)
next_place u new after good (inl is) = is
next_place u new after good (inr (e, none)) = absurd (good e)

pub none_stands : (ts : List Token) (after : List ℕ) → ts ≡ [] → Stand ts after
none_stands ts after e = inr (inl e)

-- what the reader gives, and where it stands after it
pub next_value : (old new : List Token) (o : Option Given) (here after : List ℕ) → MatchOption o ((old ≡ []) × (new ≡ [])) (λ t. old ≡ token_of t ∷ new) → Stand old here → Lexed here after
    → MatchOption o ((old ≡ []) × (new ≡ [])) (λ t. (old ≡ token_of t ∷ new) × Left (token_of t) new (λ p. punctuate p (lex between after)))
next_value old new None here after h stand lexed = h
next_value old new (Some t) here after h stand lexed = (h, next_left old here after (token_of t) new stand lexed h)

pub next_standing : (old new : List Token) (o : Option Given) (here after : List ℕ) → MatchOption o ((old ≡ []) × (new ≡ [])) (λ t. old ≡ token_of t ∷ new) → Stand old here → Lexed here after → Stand new after
next_standing old new None here after h stand lexed = none_stands new after h.1
next_standing old new (Some t) here after h stand lexed = next_stands (token_of t) new after (next_left old here after (token_of t) new stand lexed h)

-- ---- where a value begins

module _ (a : Parse Items) (o : Parse Members) where
  begun : (p : Place) (t : Token) (b : Bool) (k : Place → List Token) (r : List Token) → left (value_with a o (place_token p t b k)) ≡ Some r → place_token p t b k ≡ place_token fresh t b k
  begun fresh t b k r e = refl
  begun after_comma begin_object b k r e = refl
  begun after_comma end_object b k r e = cc
  begun after_comma begin_array b k r e = refl
  begun after_comma end_array b k r e = cc
  begun after_comma (key s) b k r e = refl
  begun after_comma (string s) true k r e = refl
  begun after_comma (string s) false k r e = refl
  begun after_comma (number s) b k r e = refl
  begun after_comma (boolean v) b k r e = refl
  begun after_comma null b k r e = refl
  begun after_comma bad b k r e = refl
  begun after_value begin_object b k r e = cc
  begun after_value end_object b k r e = refl
  begun after_value begin_array b k r e = cc
  begun after_value end_array b k r e = refl
  begun after_value (key s) b k r e = refl
  begun after_value (string s) true k r e = cc
  begun after_value (string s) false k r e = cc
  begun after_value (number s) b k r e = cc
  begun after_value (boolean v) b k r e = cc
  begun after_value null b k r e = cc
  begun after_value bad b k r e = refl
  begun after_key begin_object b k r e = cc
  begun after_key end_object b k r e = cc
  begun after_key begin_array b k r e = cc
  begun after_key end_array b k r e = cc
  begun after_key (key s) b k r e = refl
  begun after_key (string s) true k r e = cc
  begun after_key (string s) false k r e = cc
  begun after_key (number s) b k r e = cc
  begun after_key (boolean v) b k r e = cc
  begun after_key null b k r e = cc
  begun after_key bad b k r e = refl

  none_begins : (ts r : List Token) → IsOver ts → left (value_with a o ts) ≡ Some r → ⊥
  none_begins ts r (inl none) e = let never : None ≡ Some r = ap (λ l. left (value_with a o l)) (sym none) ∙ e in cc
  none_begins ts r (inr one) e = let never : None ≡ Some r = ap (λ l. left (value_with a o l)) (sym one) ∙ e in cc

  at_begin : (ts r : List Token) (here after : List ℕ) → Stand ts here → Lexed here after → left (value_with a o ts) ≡ Some r → ts ≡ tokens here
  at_begin ts r here after (inr ends) lexed e = absurd (none_begins ts r ends e)
  at_begin ts r [] after (inl (p, is)) lexed e = absurd (none_begins (punctuate p []) r (over p) (ap (λ l. left (value_with a o l)) (ap (punctuate p) (sym none_lexed) ∙ sym is) ∙ e))
  at_begin ts r (x ∷ xs) after (inl (p, is)) lexed e =
      let first : (t : Token) × (lex between (x ∷ xs) ≡ token t ∷ lex between after) = lexed (λ never. cc) in
      let b : Bool = begins_colon (lex between after) in
      let k : Place → List Token = λ q. punctuate q (lex between after) in
      let at : ts ≡ place_token p first.0 b k = is ∙ ap (punctuate p) first.1 ∙ at_token p first.0 (lex between after) in
      at ∙ begun p first.0 b k r (ap (λ l. left (value_with a o l)) (sym at) ∙ e) ∙ sym (at_token fresh first.0 (lex between after)) ∙ ap (punctuate fresh) (sym first.1)

-- a value begins there, so the tokens are those of the text from there on
pub value_begins : (d : ℕ) (ts r : List Token) (here after : List ℕ) → Stand ts here → Lexed here after → skip_value d ts ≡ Some r → ts ≡ tokens here
unfolding value
value_begins zero ts r here after stand lexed e = at_begin (λ us. None) (λ us. None) ts r here after stand lexed e
value_begins (suc d) ts r here after stand lexed e = at_begin (λ us. items (value d) (length us) us) (λ us. members (value d) (length us) us) ts r here after stand lexed e
