-- Which value bytes are.
use Rattle.std.proofs.Common.{◌≡◌, ℕ, List, Bool, true, false, if◌then◌else◌, None, sym, ap, ◌∙◌, inl, inr}
use Rattle.std.proofs.lemmas.Bool.{cases_Bool}
use Rattle.std.proofs.lemmas.Str.{IsUtf8-from_is_utf8, is_utf8-from_IsUtf8}
use Rattle.std.specs.Str.{IsUtf8, is_utf8}
use Rattle.flag_text.specs.Grammar.{value_in}
use Rattle.flag_metadata.specs.Document.{document_in}

by_utf8 : (bytes : List ℕ) (b : Bool) → is_utf8 bytes ≡ b → document_in bytes ≡ (if b then value_in bytes else None)
by_utf8 bytes b is = ap (λ (u : Bool). if u then value_in bytes else None) is

pub is_document : (bytes text : List ℕ) → text ≡ bytes → IsUtf8 bytes → value_in text ≡ document_in bytes
is_document bytes text same utf8 = ap value_in same ∙ sym (by_utf8 bytes true (is_utf8-from_IsUtf8 bytes utf8))

is_no_text : (bytes : List ℕ) → (IsUtf8 bytes → ⊥) → is_utf8 bytes ≡ false
is_no_text bytes n = elim (cases_Bool (is_utf8 bytes)) [ inl u ↦ absurd (n (IsUtf8-from_is_utf8 bytes u)) | inr u ↦ u ]

pub is_none : (bytes : List ℕ) → (IsUtf8 bytes → ⊥) → None ≡ document_in bytes
is_none bytes n = sym (by_utf8 bytes false (is_no_text bytes n))
