-- The names in bytes, by whether they are a text.
use Rattle.std.proofs.Common.{◌≡◌, ℕ, Bool, true, false, cond, List, [], None, refl, ap, ◌∙◌}
use Rattle.std.proofs.lemmas.Str.{IsUtf8-from_is_utf8, is_utf8-from_IsUtf8}
use Rattle.std.specs.Str.{IsUtf8, is_utf8}
use Rattle.flag_defs.specs.Document.{Definitions}
use Rattle.json.specs.Lex.{tokens}
use Rattle.flag_doubts.specs.Regression.{first_lost, names_in}

pub text_names : (bytes : List ℕ) → IsUtf8 bytes → names_in bytes ≡ tokens bytes
text_names bytes text = ap (λ b. cond b (tokens bytes) []) (is_utf8-from_IsUtf8 bytes text)

pub no_names : (current later : Definitions) (bytes : List ℕ) → (IsUtf8 bytes → ⊥) → first_lost current later (names_in bytes) ≡ None
no_names current later bytes never = go (is_utf8 bytes) refl
  where
    go : (b : Bool) → is_utf8 bytes ≡ b → first_lost current later (names_in bytes) ≡ None
    go true e = absurd (never (IsUtf8-from_is_utf8 bytes e))
    go false e = ap (λ b. first_lost current later (cond b (tokens bytes) [])) e
