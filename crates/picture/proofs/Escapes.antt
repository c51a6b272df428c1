-- Escaping, character by character.
use Rattle.std.proofs.Common.{◌≡◌, ℕ, suc, List, [], ◌++◌, length, chars, encode_utf8, IsUtf8}
use Rattle.std.proofs.lemmas.List.{nil_from_length}
use Rattle.std.proofs.lemmas.Str.{chars_past_char, chars-nil}
use Rattle.picture.specs.Escape.{escaped, escaped_char, begun}

pub chars_empty : (text : List ℕ) → length text ≡ 0 → chars text ≡ []
chars_empty text none = rw (nil_from_length text none) chars-nil

pub escaped_empty : (text : List ℕ) → length text ≡ 0 → escaped text ≡ []
unfolding escaped
escaped_empty text none = rw (chars_empty text none)

pub escaped_step : (text rest : List ℕ) (c : ℕ) → IsUtf8 text → text ≡ encode_utf8 c ++ rest → escaped text ≡ escaped_char c ++ escaped rest
unfolding escaped
escaped_step text rest c utf8 parts = rw (chars_past_char text rest c utf8 parts)

-- ---- the first characters

pub begun_all : (n : ℕ) (text : List ℕ) → length text ≡ 0 → begun n (chars text) ≡ []
begun_all n text none = rw (chars_empty text none)

pub begun_last : (n : ℕ) (text rest : List ℕ) (c : ℕ) → n ≡ 0 → IsUtf8 text → text ≡ encode_utf8 c ++ rest → begun n (chars text) ≡ encode_utf8 8230
begun_last n text rest c none utf8 parts = rw (none, chars_past_char text rest c utf8 parts)

pub begun_step : (n m : ℕ) (text rest : List ℕ) (c : ℕ) → n ≡ suc m → IsUtf8 text → text ≡ encode_utf8 c ++ rest → begun n (chars text) ≡ escaped_char c ++ begun m (chars rest)
begun_step n m text rest c more utf8 parts = rw (more, chars_past_char text rest c utf8 parts)
