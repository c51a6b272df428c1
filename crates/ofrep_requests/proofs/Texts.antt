-- Texts of bytes.
use Rattle.std.proofs.Common.{◌≡◌, ℕ, List, Bool, true, false, cond, Option, None, Some, refl}
use Rattle.std.specs.Str.{IsUtf8, is_utf8}
use Rattle.std.proofs.lemmas.Str.{IsUtf8-from_is_utf8, is_utf8-from_IsUtf8}
use Rattle.ofrep_requests.specs.Request.{text_if}

none_of : {A : Type 0} (b : Bool) (o : Option A) → (b ≡ true → o ≡ None) → cond b o None ≡ None
none_of true o h = h refl
none_of false o h = refl

pub text_if_utf8 : (bytes : List ℕ) → IsUtf8 bytes → text_if bytes ≡ Some bytes
text_if_utf8 bytes u = rw (is_utf8-from_IsUtf8 bytes u) refl

pub text_if_not : (bytes : List ℕ) → (IsUtf8 bytes → ⊥) → text_if bytes ≡ None
text_if_not bytes h = none_of (is_utf8 bytes) (Some bytes) (λ e. absurd (h (IsUtf8-from_is_utf8 bytes e)))
