-- How a part of a text stands to the tokens that are left of it.
use Rattle.std.specs.Prelude.{◌≡◌, ◌≤◌, ◌⊎◌, ◌+◌, ℕ, zero, suc, Option, Some, None, List, [], ◌∷◌, length, drop, Bool, true, false, not, ◌||◌, ◌==◌, if◌then◌else◌}
use Rattle.std.specs.List.{prefix_len}
use Rattle.json.specs.Align.{span}
use Rattle.json.specs.Lex.{Place, fresh, after_value, after_key, between, in_string, lex, punctuate}
use Rattle.json.specs.Token.{Token, bad}
use Rattle.json.specs.Ascii as ascii
use Rattle.json.specs.Word.{is_operator, is_space}

-- no token begins with the byte: a blank, a comma or a colon
abbrev pub is_mark : ℕ → Bool
is_mark x = is_space x || ((x == ascii.comma) || (x == ascii.colon))

-- the byte ends a number or a literal
abbrev pub ends_number : ℕ → Bool
ends_number x = is_operator x || is_space x

-- the text from its first byte on that is no mark: there the next token begins
abbrev pub from_token : List ℕ → List ℕ
from_token text = drop (prefix_len is_mark text) text

-- the text behind the quote that closes a string, within which it begins
abbrev pub after_string : List ℕ → List ℕ
after_string text = drop (span in_string text) text

-- the text behind a number or a literal, within which it begins
abbrev pub after_word : List ℕ → List ℕ
after_word text = drop (prefix_len (λ x. not (ends_number x)) text) text

-- The text behind the token that it begins with: a bracket is one byte, a string goes up to its closing quote, a number or a
-- literal up to a bracket, a mark or the end (RFC 8259, sections 2, 6 and 7).
abbrev pub after_token : List ℕ → List ℕ
after_token [] = []
after_token (x ∷ xs) = if ends_number x then xs else (if x == ascii.quote then after_string xs else after_word xs)

-- the text behind its first n tokens
unfoldable pub behind : ℕ → List ℕ → List ℕ
behind zero text = text
behind (suc n) text = behind n (after_token (from_token text))

-- the tokens that are left and the text that is left go on by the same number of tokens
abbrev pub GoOn : List Token → List ℕ → List Token → List ℕ → Type 0
GoOn tokens text later rest = (n : ℕ) × (length tokens ≡ n + length later) × (rest ≡ behind n text)

-- a token begins the text, or nothing is left of it
abbrev pub begins_token : List ℕ → Bool
begins_token [] = true
begins_token (x ∷ xs) = not (is_mark x)

-- the one is the end of the other, from some byte on
abbrev pub IsEnd : List ℕ → List ℕ → Type 0
IsEnd text whole = (n : ℕ) × (n ≤ length whole) × (text ≡ drop n whole)

-- nothing is left, or but a fault
abbrev pub IsOver : List Token → Type 0
IsOver ts = (ts ≡ []) ⊎ (ts ≡ bad ∷ [])

-- the tokens are those of the text at some place between values, or they end there with a fault
abbrev pub Stand : List Token → List ℕ → Type 0
Stand ts text = ((p : Place) × (ts ≡ punctuate p (lex between text))) ⊎ IsOver ts

-- the place that a token leaves
abbrev pub place_after : Token → Place
place_after Token.begin_object = fresh
place_after Token.end_object = after_value
place_after Token.begin_array = fresh
place_after Token.end_array = after_value
place_after (Token.key s) = after_key
place_after (Token.string s) = after_value
place_after (Token.number s) = after_value
place_after (Token.boolean b) = after_value
place_after Token.null = after_value
place_after Token.bad = after_value

-- what is left after a token: the tokens from the place on that it leaves, or nothing after a fault
abbrev pub Left : Token → List Token → (Place → List Token) → Type 0
Left t rest k = (rest ≡ k (place_after t)) ⊎ ((t ≡ bad) × (rest ≡ []))

-- a list or an object opens, or closes
abbrev pub is_opening : Token → Bool
is_opening Token.begin_object = true
is_opening Token.end_object = false
is_opening Token.begin_array = true
is_opening Token.end_array = false
is_opening (Token.key s) = false
is_opening (Token.string s) = false
is_opening (Token.number s) = false
is_opening (Token.boolean b) = false
is_opening Token.null = false
is_opening Token.bad = false

abbrev pub is_closing : Token → Bool
is_closing Token.begin_object = false
is_closing Token.end_object = true
is_closing Token.begin_array = false
is_closing Token.end_array = true
is_closing (Token.key s) = false
is_closing (Token.string s) = false
is_closing (Token.number s) = false
is_closing (Token.boolean b) = false
is_closing Token.null = false
is_closing Token.bad = false

-- what is left of the tokens once so many brackets that are open were closed
unfoldable pub closed : ℕ → List Token → Option (List Token)
closed zero ts = Some ts
closed (suc n) [] = None
closed (suc n) (Token.begin_object ∷ ts) = closed (suc (suc n)) ts
closed (suc n) (Token.end_object ∷ ts) = closed n ts
closed (suc n) (Token.begin_array ∷ ts) = closed (suc (suc n)) ts
closed (suc n) (Token.end_array ∷ ts) = closed n ts
closed (suc n) (Token.key s ∷ ts) = closed (suc n) ts
closed (suc n) (Token.string s ∷ ts) = closed (suc n) ts
closed (suc n) (Token.number s ∷ ts) = closed (suc n) ts
closed (suc n) (Token.boolean b ∷ ts) = closed (suc n) ts
closed (suc n) (Token.null ∷ ts) = closed (suc n) ts
closed (suc n) (Token.bad ∷ ts) = closed (suc n) ts
