-- Texts of bytes.
use Rattle.std.proofs.Common.{◌≡◌, ◌++◌, ℕ, List, [], Bool, true, false, cond, Option, None, Some, String, string_bytes, refl, sym, ap, ◌∙◌, subst}
use Rattle.std.specs.Str.{IsUtf8, is_utf8}
use Rattle.std.proofs.lemmas.Str.{IsUtf8-from_is_utf8, IsUtf8-string_bytes, is_utf8-from_IsUtf8}
use Rattle.control_flags.specs.Calls.{text_of_bytes}

none_of : {A : Type 0} (b : Bool) (o : Option A) → (b ≡ true → o ≡ None) → cond b o None ≡ None
none_of true o h = h refl
none_of false o h = refl

text_here : (bytes : List ℕ) → IsUtf8 bytes → text_of_bytes bytes ≡ Some bytes
text_here bytes is = rw (is_utf8-from_IsUtf8 bytes is) refl

no_text : (bytes : List ℕ) → (IsUtf8 bytes → ⊥) → text_of_bytes bytes ≡ None
no_text bytes not = none_of (is_utf8 bytes) (Some bytes) (λ e. absurd (not (IsUtf8-from_is_utf8 bytes e)))

differs : {Y : Type 0} → false ≡ true → Y
differs h = cc

-- a vector that was empty, and to which these were appended
pub decoded : (old new bytes wanted : List ℕ) → old ≡ [] → new ≡ old ++ bytes → bytes ≡ wanted → new ≡ wanted
decoded old new bytes wanted empty is same = is ∙ ap (λ (front : List ℕ). front ++ bytes) empty ∙ same

-- a text of these bytes
pub text_made : {Z : Type 0} (text : String Z) (bytes wanted : List ℕ) → string_bytes text ≡ bytes → bytes ≡ wanted → Some (string_bytes text) ≡ text_of_bytes wanted
text_made text bytes wanted is same =
    let all : string_bytes text ≡ wanted = is ∙ same in
    ap (λ (b : List ℕ). Some b) all ∙ sym (text_here wanted (subst IsUtf8 all (IsUtf8-string_bytes text)))

-- none has them, where bytes that are a text would be taken
pub none_made : (bytes wanted : List ℕ) → (IsUtf8 bytes → false ≡ true) → bytes ≡ wanted → None ≡ text_of_bytes wanted
none_made bytes wanted not same = sym (no_text bytes (λ is. differs (not is))) ∙ ap text_of_bytes same
