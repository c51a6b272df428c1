-- The value of bytes, by whether they are a text.
use Rattle.std.proofs.Common.{◌≡◌, ℕ, Bool, true, false, cond, List, Option, Some, None, is_some, option_and_then, String, Global, string_bytes, refl, sym, ap, ◌∙◌}
use Rattle.std.proofs.lemmas.Str.{IsUtf8-from_is_utf8, is_utf8-from_IsUtf8}
use Rattle.std.specs.Str.{IsUtf8, is_utf8}
use Rattle.json.specs.Json.{Json, document}
use Rattle.member_names.specs.Places.{place_of, told}
use Rattle.member_names.specs.Repeated.{json_of, repeats_in}
use Rattle.member_names.proofs.Placing.{mapped_told, place_is_told}

pub json_text : (bytes : List ℕ) → IsUtf8 bytes → json_of bytes ≡ document bytes
json_text bytes text = ap (λ b. cond b (document bytes) None) (is_utf8-from_IsUtf8 bytes text)

pub no_json : (bytes : List ℕ) → (IsUtf8 bytes → document bytes ≡ None) → json_of bytes ≡ None
no_json bytes none = go (is_utf8 bytes) refl
  where
    go : (b : Bool) → is_utf8 bytes ≡ b → json_of bytes ≡ None
    go true e = ap (λ b. cond b (document bytes) None) e ∙ none (IsUtf8-from_is_utf8 bytes e)
    go false e = ap (λ b. cond b (document bytes) None) e

-- there is a place in a value exactly where it repeats a name
pub told_repeats : (j : Option Json) (o : Option (String Global)) → told o ≡ option_and_then place_of j → is_some o ≡ repeats_in j
told_repeats None o is = sym (mapped_told string_bytes o) ∙ ap (λ p. is_some p) is
told_repeats (Some j) o is = place_is_told o j is
