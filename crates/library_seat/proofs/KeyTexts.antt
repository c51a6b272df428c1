-- A key is a text, or none.
use Rattle.std.proofs.Common.{◌≡◌, ℕ, List, Bool, true, false, refl, ap, ◌∙◌, sym, if◌then◌else◌}
use Rattle.std.specs.Prelude.{Some, None}
use Rattle.std.specs.Str.{IsUtf8, is_utf8}
use Rattle.std.proofs.lemmas.Str.{IsUtf8-from_is_utf8, is_utf8-from_IsUtf8}
use Rattle.library_seat.specs.Question.{key_of}

pub text_key : (text bytes : List ℕ) → text ≡ bytes → IsUtf8 bytes → Some text ≡ key_of bytes
text_key text bytes same is = ap Some same ∙ sym (ap (λ (b : Bool). if b then Some bytes else None) (is_utf8-from_IsUtf8 bytes is))

pub no_key : (bytes : List ℕ) → ¬ (IsUtf8 bytes) → None ≡ key_of bytes
no_key bytes none = by_test (is_utf8 bytes) refl
  where
    by_test : (b : Bool) → is_utf8 bytes ≡ b → None ≡ key_of bytes
    by_test true e = absurd (none (IsUtf8-from_is_utf8 bytes e))
    by_test false e = sym (ap (λ (b : Bool). if b then Some bytes else None) e)
