-- Where the character with an index starts.
use Rattle.std.proofs.Common.{◌≡◌, ℕ, ◌+◌, List, [], ◌∷◌, ◌++◌, map, length, chars, encode_utf8, encode_utf8_all, IsUtf8, refl, sym, ap, ◌∙◌, arith, append_assoc, length-append}
use Rattle.std.proofs.lemmas.Str.{IsUtf8-past_char, chars_past_char}
use Rattle.std.specs.Iterator.{Yields}
use borrow.Author.Tests.{lt-ltb, le-ltb}
use Rattle.std.proofs.lemmas.List.{take_at}
use Rattle.std.specs.Prelude.{◌≤◌, codes, nat_lt, take, true, false}
use Rattle.file_diagnostics.specs.Named.{most_characters, shown}
use Rattle.std.specs.Str.Iter.{char_indices_steps, char_indices_rest, char_indices_offset}

-- the characters came off the front of the text, which leaves the rest from the offset on
pub record Passed (text : List ℕ) (from : ℕ) (cs rest : List ℕ) (offset : ℕ) : Type 0 where
  pub bytes : text ≡ encode_utf8_all cs ++ rest
  pub read : chars text ≡ cs ++ chars rest
  pub utf8 : IsUtf8 rest
  pub at : offset ≡ from + length (encode_utf8_all cs)

pub passed : (xs : List (ℕ × ℕ)) (s t : _) → IsUtf8 (char_indices_rest s) → Yields char_indices_steps s xs t →
    Passed (char_indices_rest s) (char_indices_offset s) (map (λ x. x.1) xs) (char_indices_rest t) (char_indices_offset t)
passed [] s t utf8 same = rw (← same) (record { bytes = refl; read = refl; utf8 = utf8; at = omega arith })
passed (x ∷ xs) s t utf8 y =
    let step = y.1 in
    let more = passed xs y.0 t (IsUtf8-past_char _ _ x.1 utf8 step.1) y.2 in
    let cs = map (λ (p : ℕ × ℕ). p.1) xs in record {
      bytes = step.1 ∙ ap (λ l. encode_utf8 x.1 ++ l) more.bytes ∙ sym (append_assoc (encode_utf8 x.1) (encode_utf8_all cs) _);
      read = chars_past_char _ _ x.1 utf8 step.1 ∙ ap (λ l. x.1 ∷ l) more.read;
      utf8 = more.utf8;
      at = omega (arith, more.at, step.2, length-append (encode_utf8 x.1) (encode_utf8_all cs));
    }

-- a name of more characters is shown by its first ones
module _ (name cs rest : List ℕ) where
  pub cut : (c : ℕ) (left : List ℕ) → name ≡ encode_utf8_all cs ++ rest → chars name ≡ cs ++ chars rest → length cs ≡ most_characters → chars rest ≡ c ∷ left
      → shown name ≡ take (length (encode_utf8_all cs)) name ++ codes ".."
  unfolding shown
  cut c left bytes read count more =
      let many : length (chars name) ≡ length cs + length (chars rest) = rw read (length-append cs (chars rest)) in
      let some : length (chars rest) ≡ length (c ∷ left) = ap length more in
      let long : nat_lt most_characters (length (chars name)) ≡ true = lt-ltb _ _ (omega (arith, many, some, count)) in
      let front : take most_characters (chars name) ≡ cs = rw read (take_at cs (chars rest) most_characters count) in
      let piece : take (length (encode_utf8_all cs)) name ≡ encode_utf8_all cs = rw bytes (take_at (encode_utf8_all cs) rest (length (encode_utf8_all cs)) refl) in
      rw (long, front, piece) refl

-- and one of no more as it is
pub kept : (name : List ℕ) → length (chars name) ≤ most_characters → shown name ≡ name
unfolding shown
kept name few = let short : nat_lt most_characters (length (chars name)) ≡ false = le-ltb _ _ few in rw short refl
