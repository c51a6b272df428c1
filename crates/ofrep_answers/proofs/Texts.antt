-- Texts of bytes.
use Rattle.std.proofs.Common.{◌≡◌, ℕ, List, true, false, inl, inr}
use Rattle.std.proofs.lemmas.Bool.{cases_Bool}
use Rattle.std.specs.Str.{IsUtf8, is_utf8}
use Rattle.std.proofs.lemmas.Str.{IsUtf8-from_is_utf8, is_utf8-from_IsUtf8}

pub is_a_text : (bytes : List ℕ) → IsUtf8 bytes → is_utf8 bytes ≡ true
is_a_text bytes u = is_utf8-from_IsUtf8 bytes u

pub is_no_text : (bytes : List ℕ) → (IsUtf8 bytes → ⊥) → is_utf8 bytes ≡ false
is_no_text bytes n = elim (cases_Bool (is_utf8 bytes)) [ inl u ↦ absurd (n (IsUtf8-from_is_utf8 bytes u)) | inr u ↦ u ]
