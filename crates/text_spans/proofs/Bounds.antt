-- A text has no more tokens than bytes, but for a fault at its end.
use Rattle.std.proofs.Common.{◌≤◌, inl, inr, ℕ, ◌+◌, suc, Bool, true, false, List, [], ◌∷◌, length, ap, arith}
use Rattle.json.specs.Token.{Token, begin_object, end_object, begin_array, end_array, key, string, number, boolean, null, bad}
use Rattle.json.specs.Lex.{Lexeme, token, comma, colon, Class, quote, backslash, operator, space, other, class, Mode, between, in_word, in_string, in_escape, lex_byte, lex}
use Rattle.json.specs.Lex.{Place, fresh, after_value, after_comma, after_key, begins_colon, if_allowed, may_begin, may_close, place_token, punctuate}
use Rattle.text_spans.specs.Place.{Stand}
use Rattle.text_spans.proofs.Stepping.{at_token}

byte_bound : (m : Mode) (c : Class) (x : ℕ) (xs : List ℕ) (k : Mode → List Lexeme) (n : ℕ) → ((q : Mode) → length (k q) ≤ n) → length (lex_byte m c x xs k) ≤ suc n
byte_bound between quote x xs k n h = omega (arith, h in_string)
byte_bound between backslash x xs k n h = omega (arith, h in_word)
byte_bound between operator x xs k n h = omega (arith, h between)
byte_bound between space x xs k n h = omega (arith, h between)
byte_bound between other x xs k n h = omega (arith, h in_word)
byte_bound in_word quote x xs k n h = omega (arith, h in_word)
byte_bound in_word backslash x xs k n h = omega (arith, h in_word)
byte_bound in_word operator x xs k n h = omega (arith, h between)
byte_bound in_word space x xs k n h = omega (arith, h between)
byte_bound in_word other x xs k n h = omega (arith, h in_word)
byte_bound in_string quote x xs k n h = omega (arith, h between)
byte_bound in_string backslash x xs k n h = omega (arith, h in_escape)
byte_bound in_string operator x xs k n h = omega (arith, h in_string)
byte_bound in_string space x xs k n h = omega (arith, h in_string)
byte_bound in_string other x xs k n h = omega (arith, h in_string)
byte_bound in_escape c x xs k n h = omega (arith, h in_string)

lex_bound : (m : Mode) (xs : List ℕ) → length (lex m xs) ≤ length xs
unfolding lex
lex_bound m [] = omega arith
lex_bound m (x ∷ xs) = byte_bound m (class x) x xs (λ n. lex n xs) (length xs) (λ q. lex_bound q xs)

allowed_bound : (b : Bool) (t : Token) (k : Place → List Token) (next : Place) (n : ℕ) → ((q : Place) → length (k q) ≤ n) → length (if_allowed b t k next) ≤ suc n
allowed_bound true t k next n h = omega (arith, h next)
allowed_bound false t k next n h = omega arith

token_bound : (p : Place) (t : Token) (b : Bool) (k : Place → List Token) (n : ℕ) → ((q : Place) → length (k q) ≤ n) → length (place_token p t b k) ≤ suc n
token_bound p begin_object b k n h = allowed_bound (may_begin p) begin_object k fresh n h
token_bound p end_object b k n h = allowed_bound (may_close p) end_object k after_value n h
token_bound p begin_array b k n h = allowed_bound (may_begin p) begin_array k fresh n h
token_bound p end_array b k n h = allowed_bound (may_close p) end_array k after_value n h
token_bound p (key s) b k n h = omega arith
token_bound p (string s) true k n h = allowed_bound (may_begin p) (key s) k after_key n h
token_bound p (string s) false k n h = allowed_bound (may_begin p) (string s) k after_value n h
token_bound p (number s) b k n h = allowed_bound (may_begin p) (number s) k after_value n h
token_bound p (boolean v) b k n h = allowed_bound (may_begin p) (boolean v) k after_value n h
token_bound p null b k n h = allowed_bound (may_begin p) null k after_value n h
token_bound p bad b k n h = omega arith

place_bound : (p : Place) (ls : List Lexeme) → length (punctuate p ls) ≤ suc (length ls)
unfolding punctuate
place_bound fresh [] = omega arith
place_bound after_value [] = omega arith
place_bound after_comma [] = omega arith
place_bound after_key [] = omega arith
place_bound p (token t ∷ ls) = omega (arith, ap length (at_token p t ls), token_bound p t (begins_colon ls) (λ q. punctuate q ls) (suc (length ls)) (λ q. place_bound q ls))
place_bound fresh (comma ∷ ls) = omega arith
place_bound after_value (comma ∷ ls) = omega (arith, place_bound after_comma ls)
place_bound after_comma (comma ∷ ls) = omega arith
place_bound after_key (comma ∷ ls) = omega arith
place_bound fresh (colon ∷ ls) = omega arith
place_bound after_value (colon ∷ ls) = omega arith
place_bound after_comma (colon ∷ ls) = omega arith
place_bound after_key (colon ∷ ls) = omega (arith, place_bound fresh ls)

pub stand_bound : (ts : List Token) (text : List ℕ) → Stand ts text → length ts ≤ length text + 1
stand_bound ts text (inl (p, is)) = omega (arith, ap length is, place_bound p (lex between text), lex_bound between text)
stand_bound ts text (inr (inl none)) = omega (arith, ap length none)
stand_bound ts text (inr (inr one)) = omega (arith, ap length one)
