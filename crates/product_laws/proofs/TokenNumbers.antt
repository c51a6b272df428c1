-- The numbers of a value are those of the lexemes of its text.
use Rattle.std.proofs.Common.{◌≡◌, ◌∙◌, ◌<◌, ◌^◌, ℕ, pos, Bool, true, false, cond, ◌&&◌, List, [], ◌∷◌, ◌++◌, Option, Some, None, option_and_then, decimal, refl, sym, ap, ap₂, subst, arith, append_assoc, append-nil}
use Rattle.std.proofs.lemmas.Bool.{and_from, and_parts, false≢true}
use Rattle.std.proofs.lemmas.List.Folds.{list_all-append}
use Rattle.std.specs.List.{list_all}
use Rattle.json.proofs.Printed.Decimals.{IsNumber-decimal}
use Rattle.json.proofs.Printed.Numbers.{lex-number}
use Rattle.json.proofs.Printed.Strings.{lex-escape}
use Rattle.json.proofs.Unique.Spelling.{value-json_tokens_back}
use Rattle.json.specs.Align.{is_good}
use Rattle.json.specs.Json.{Json, null, boolean, number, string, array, object, Items, no_items, item, Members, no_members, member, if_last, value}
use Rattle.json.specs.Lex.{Lexeme, token, comma, colon, Place, fresh, after_value, after_comma, after_key, begins_colon, between, if_allowed, in_string, lex, may_begin, may_close, place_token, punctuate, string_token, tokens}
use Rattle.json.specs.Print.{escape}
use Rattle.json.specs.Text.{content, plain}
use Rattle.json.specs.Token.{Token}
use Rattle.json.specs.Tree.{items_tokens, json_tokens, members_tokens}
use Rattle.json.specs.Word.{ends_word}
use Rattle.flag_text.specs.Grammar.{value_in}
use Rattle.flag_text.specs.Printing.{text_of}
use Rattle.flag_text.specs.Reading.{json_levels}
use Rattle.flag_text.specs.Shape as shape
use Rattle.product_laws.proofs.Spliced.{have, lexeme_has, text_has, token_has}

-- ---- the tokens of a text that is a value

same_value : (i j : Json) (r : List Token) → if_last i r ≡ Some j → (r ≡ []) × (i ≡ j)
same_value i j [] h = (refl, cc)
same_value i j (k ∷ r) h = cc

pub tokens_of : (text : List ℕ) (j : Json) → value_in text ≡ Some j → tokens text ≡ json_tokens j
tokens_of text j h = by (value json_levels (tokens text)) refl h
  where
    by : (o : Option (Json × List Token)) → value json_levels (tokens text) ≡ o → option_and_then (λ p. if_last p.0 p.1) o ≡ Some j → tokens text ≡ json_tokens j
    by None is e = cc
    by (Some p) is e =
        let same = same_value p.0 j p.1 e in
        value-json_tokens_back json_levels (tokens text) p.1 p.0 is ∙ ap₂ (λ (i : Json) (r : List Token). json_tokens i ++ r) same.1 same.0 ∙ append-nil (json_tokens j)

good_both : (xs ys : List Token) → list_all is_good xs ≡ true → list_all is_good ys ≡ true → list_all is_good (xs ++ ys) ≡ true
good_both xs ys g h = list_all-append is_good xs ys ∙ and_from (list_all is_good xs) (list_all is_good ys) g h

mutual
  value_good : (j : Json) → list_all is_good (json_tokens j) ≡ true
  value_good null = refl
  value_good (boolean b) = refl
  value_good (number s) = refl
  value_good (string s) = refl
  value_good (array js) = items_good js
  value_good (object ms) = members_good ms

  items_good : (js : Items) → list_all is_good (items_tokens js) ≡ true
  items_good no_items = refl
  items_good (item j js) = good_both (json_tokens j) (items_tokens js) (value_good j) (items_good js)

  members_good : (ms : Members) → list_all is_good (members_tokens ms) ≡ true
  members_good no_members = refl
  members_good (member k j ms) = good_both (json_tokens j) (members_tokens ms) (value_good j) (members_good ms)

-- ---- from lexemes to tokens, and back

module _ (P : List ℕ → Bool) where
  abbrev pub tokens_have : List Token → Bool
  tokens_have ts = list_all (token_has P) ts

  -- where the tokens go on so from each place, they do with a token before them
  module _ (k : Place → List Token) (more : (n : Place) → tokens_have (k n) ≡ true) where
    allowed : (a : Bool) (t : Token) (n : Place) → token_has P t ≡ true → tokens_have (if_allowed a t k n) ≡ true
    allowed true t n h = and_from (token_has P t) (tokens_have (k n)) h (more n)
    allowed false t n h = refl

    placed : (p : Place) (t : Token) (b : Bool) → token_has P t ≡ true → tokens_have (place_token p t b k) ≡ true
    placed p Token.begin_object b h = allowed (may_begin p) Token.begin_object fresh h
    placed p Token.end_object b h = allowed (may_close p) Token.end_object after_value h
    placed p Token.begin_array b h = allowed (may_begin p) Token.begin_array fresh h
    placed p Token.end_array b h = allowed (may_close p) Token.end_array after_value h
    placed p (Token.key s) b h = refl
    placed p (Token.string s) true h = allowed (may_begin p) (Token.key s) after_key refl
    placed p (Token.string s) false h = allowed (may_begin p) (Token.string s) after_value h
    placed p (Token.number s) b h = allowed (may_begin p) (Token.number s) after_value h
    placed p (Token.boolean v) b h = allowed (may_begin p) (Token.boolean v) after_value h
    placed p Token.null b h = allowed (may_begin p) Token.null after_value h
    placed p Token.bad b h = refl

  pub tokens_from : (ls : List Lexeme) (p : Place) → have P ls ≡ true → tokens_have (punctuate p ls) ≡ true
  unfolding punctuate
  tokens_from [] fresh h = refl
  tokens_from [] after_value h = refl
  tokens_from [] after_comma h = refl
  tokens_from [] after_key h = refl
  tokens_from (token t ∷ ls) fresh h = let q = and_parts (token_has P t) (have P ls) h in placed (λ n. punctuate n ls) (λ n. tokens_from ls n q.1) fresh t (begins_colon ls) q.0
  tokens_from (token t ∷ ls) after_value h = let q = and_parts (token_has P t) (have P ls) h in placed (λ n. punctuate n ls) (λ n. tokens_from ls n q.1) after_value t (begins_colon ls) q.0
  tokens_from (token t ∷ ls) after_comma h = let q = and_parts (token_has P t) (have P ls) h in placed (λ n. punctuate n ls) (λ n. tokens_from ls n q.1) after_comma t (begins_colon ls) q.0
  tokens_from (token t ∷ ls) after_key h = let q = and_parts (token_has P t) (have P ls) h in placed (λ n. punctuate n ls) (λ n. tokens_from ls n q.1) after_key t (begins_colon ls) q.0
  tokens_from (comma ∷ ls) fresh h = refl
  tokens_from (comma ∷ ls) after_value h = tokens_from ls after_comma h
  tokens_from (comma ∷ ls) after_comma h = refl
  tokens_from (comma ∷ ls) after_key h = refl
  tokens_from (colon ∷ ls) fresh h = refl
  tokens_from (colon ∷ ls) after_value h = refl
  tokens_from (colon ∷ ls) after_comma h = refl
  tokens_from (colon ∷ ls) after_key h = tokens_from ls fresh h

  -- a token that is allowed, and the tokens behind it
  abbrev Back : Token → (Place → List Token) → Type 0
  Back t k = (token_has P t ≡ true) × ((n : Place) × (list_all is_good (k n) ≡ true) × (tokens_have (k n) ≡ true))

  module _ (k : Place → List Token) where
    allowed_back : (a : Bool) (t : Token) (n : Place) → list_all is_good (if_allowed a t k n) ≡ true → tokens_have (if_allowed a t k n) ≡ true → Back t k
    allowed_back true t n g h = let a = and_parts (token_has P t) (tokens_have (k n)) h in (a.0, (n, (and_parts (is_good t) (list_all is_good (k n)) g).1, a.1))
    allowed_back false t n g h = absurd (false≢true g)

    placed_back : (p : Place) (t : Token) (b : Bool) → list_all is_good (place_token p t b k) ≡ true → tokens_have (place_token p t b k) ≡ true → Back t k
    placed_back p Token.begin_object b g h = allowed_back (may_begin p) Token.begin_object fresh g h
    placed_back p Token.end_object b g h = allowed_back (may_close p) Token.end_object after_value g h
    placed_back p Token.begin_array b g h = allowed_back (may_begin p) Token.begin_array fresh g h
    placed_back p Token.end_array b g h = allowed_back (may_close p) Token.end_array after_value g h
    placed_back p (Token.key s) b g h = absurd (false≢true g)
    placed_back p (Token.string s) true g h = let a = allowed_back (may_begin p) (Token.key s) after_key g h in (refl, a.1)
    placed_back p (Token.string s) false g h = allowed_back (may_begin p) (Token.string s) after_value g h
    placed_back p (Token.number s) b g h = allowed_back (may_begin p) (Token.number s) after_value g h
    placed_back p (Token.boolean v) b g h = allowed_back (may_begin p) (Token.boolean v) after_value g h
    placed_back p Token.null b g h = allowed_back (may_begin p) Token.null after_value g h
    placed_back p Token.bad b g h = absurd (false≢true g)

  both_have : (t : Token) (ls : List Lexeme) → Back t (λ n. punctuate n ls) → ((p : Place) → list_all is_good (punctuate p ls) ≡ true → tokens_have (punctuate p ls) ≡ true → have P ls ≡ true) → have P (token t ∷ ls) ≡ true
  both_have t ls b more = and_from (token_has P t) (have P ls) b.0 (more b.1.0 b.1.1 b.1.2)

  pub lexemes_from : (ls : List Lexeme) (p : Place) → list_all is_good (punctuate p ls) ≡ true → tokens_have (punctuate p ls) ≡ true → have P ls ≡ true
  unfolding punctuate
  lexemes_from [] p g h = refl
  lexemes_from (token t ∷ ls) fresh g h = both_have t ls (placed_back (λ n. punctuate n ls) fresh t (begins_colon ls) g h) (lexemes_from ls)
  lexemes_from (token t ∷ ls) after_value g h = both_have t ls (placed_back (λ n. punctuate n ls) after_value t (begins_colon ls) g h) (lexemes_from ls)
  lexemes_from (token t ∷ ls) after_comma g h = both_have t ls (placed_back (λ n. punctuate n ls) after_comma t (begins_colon ls) g h) (lexemes_from ls)
  lexemes_from (token t ∷ ls) after_key g h = both_have t ls (placed_back (λ n. punctuate n ls) after_key t (begins_colon ls) g h) (lexemes_from ls)
  lexemes_from (comma ∷ ls) fresh g h = absurd (false≢true g)
  lexemes_from (comma ∷ ls) after_value g h = lexemes_from ls after_comma g h
  lexemes_from (comma ∷ ls) after_comma g h = absurd (false≢true g)
  lexemes_from (comma ∷ ls) after_key g h = absurd (false≢true g)
  lexemes_from (colon ∷ ls) fresh g h = absurd (false≢true g)
  lexemes_from (colon ∷ ls) after_value g h = absurd (false≢true g)
  lexemes_from (colon ∷ ls) after_comma g h = absurd (false≢true g)
  lexemes_from (colon ∷ ls) after_key g h = lexemes_from ls fresh g h

  -- ---- a text that is a value

  pub text_from : (text : List ℕ) (j : Json) → value_in text ≡ Some j → tokens_have (json_tokens j) ≡ true → have P (lex between text) ≡ true
  text_from text j is h =
      let same : tokens text ≡ json_tokens j = tokens_of text j is in
      lexemes_from (lex between text) fresh (ap (list_all is_good) same ∙ value_good j) (ap (λ ts. tokens_have ts) same ∙ h)

  pub value_from : (text : List ℕ) (j : Json) → value_in text ≡ Some j → have P (lex between text) ≡ true → tokens_have (json_tokens j) ≡ true
  value_from text j is h = ap (λ ts. tokens_have ts) (sym (tokens_of text j is)) ∙ tokens_from (lex between text) fresh h

-- ---- a bucket as it is written

bracket_lexed : (t : List ℕ) → lex between (91 ∷ t) ≡ token Token.begin_array ∷ lex between t
unfolding lex
bracket_lexed t = refl

quote_lexed : (t : List ℕ) → lex between (34 ∷ t) ≡ token (string_token (content plain t)) ∷ lex in_string t
unfolding lex
quote_lexed t = refl

pub comma_lexed : (t : List ℕ) → lex between (44 ∷ t) ≡ comma ∷ lex between t
unfolding lex
comma_lexed t = refl

closing_lexed : (t : List ℕ) → lex between (93 ∷ t) ≡ token Token.end_array ∷ lex between t
unfolding lex
closing_lexed t = refl

abbrev pub bucket : List ℕ → ℕ → shape.Shape
bucket name weight = shape.list (shape.item (shape.text name) (shape.item (shape.whole (pos weight)) shape.no_items))

spread : (name : List ℕ) (n : ℕ) (r : List ℕ) → text_of (bucket name n) ++ r ≡ 91 ∷ 34 ∷ (escape name ++ 34 ∷ 44 ∷ (decimal n ++ 93 ∷ r))
unfolding text_of
spread name n r =
    ap (λ t. 91 ∷ 34 ∷ t)
    (append_assoc (escape name ++ 34 ∷ []) (44 ∷ (decimal n ++ 93 ∷ [])) r ∙ append_assoc (escape name) (34 ∷ []) ((44 ∷ (decimal n ++ 93 ∷ [])) ++ r)
    ∙ ap (λ t. escape name ++ 34 ∷ 44 ∷ t) (append_assoc (decimal n) (93 ∷ []) r))

pub bucket_ends : (name : List ℕ) (n : ℕ) (r : List ℕ) → ends_word (text_of (bucket name n) ++ r) ≡ true
bucket_ends name n r = ap ends_word (spread name n r)

pub bucket_has : (P : List ℕ → Bool) (name : List ℕ) (n : ℕ) (r : List ℕ) → n < 2 ^ 53 → P (decimal n) ≡ true → have P (lex between r) ≡ true → have P (lex between (text_of (bucket name n) ++ r)) ≡ true
bucket_has P name n r small weight h =
    let rest : have P (lex between (93 ∷ r)) ≡ true = ap (have P) (closing_lexed r) ∙ h in
    let numbered : have P (lex between (decimal n ++ 93 ∷ r)) ≡ true =
    ap (have P) (lex-number (decimal n) (93 ∷ r) (IsNumber-decimal n (omega (arith, small))) refl) ∙ and_from (P (decimal n)) (have P (lex between (93 ∷ r))) weight rest in
    let behind : have P (lex in_string (escape name ++ 34 ∷ 44 ∷ (decimal n ++ 93 ∷ r))) ≡ true =
    ap (have P) (lex-escape name (44 ∷ (decimal n ++ 93 ∷ r))) ∙ ap (have P) (comma_lexed (decimal n ++ 93 ∷ r)) ∙ numbered in
    let named = escape name ++ 34 ∷ 44 ∷ (decimal n ++ 93 ∷ r) in
    ap (λ t. have P (lex between t)) (spread name n r) ∙ ap (have P) (bracket_lexed (34 ∷ named)) ∙ ap (have P) (quote_lexed named)
    ∙ and_from (lexeme_has P (token (string_token (content plain named)))) (have P (lex in_string named)) (text_has P (content plain named)) behind
