-- Bytes that are no text mean no flags.
use Rattle.std.proofs.Common.{◌≡◌, ℕ, Bool, true, false, List, Result, Ok, Err, length, nat_lt, refl, subst}
use Rattle.std.specs.Str.{IsUtf8, is_utf8}
use Rattle.std.proofs.lemmas.Str.{IsUtf8-from_is_utf8}
use Rattle.spelled_numbers.specs.Reading.{doc_with_floats}
use Rattle.flag_defs.specs.Document.{Definitions, TextMeans, max_bytes}
use Rattle.flag_defs.specs.Floats.{MeansAs}
use Rattle.flag_text.specs.Shape.{Shape}
use Rattle.flag_text.specs.declared.fault.TextFault.{TextFault}
use Rattle.flag_text.specs.declared.fault.TextFault.TheVariants.{NotJson, TooLarge}

none_of_large : (flags : Definitions) → TextMeans (Err TooLarge) (Ok flags) → ⊥
none_of_large flags means = cc

none_of_other : (flags : Definitions) → TextMeans (Err NotJson) (Ok flags) → ⊥
none_of_other flags means = cc

no_utf8 : (bytes : List ℕ) → (IsUtf8 bytes → ⊥) → (b : Bool) → is_utf8 bytes ≡ b → is_utf8 bytes ≡ false
no_utf8 bytes other true e = absurd (other (IsUtf8-from_is_utf8 bytes e))
no_utf8 bytes other false e = e

by_length : (bytes : List ℕ) (flags : Definitions) (b : Bool) → nat_lt max_bytes (length bytes) ≡ b → (IsUtf8 bytes → ⊥) → MeansAs true bytes (Ok flags) → ⊥
by_length bytes flags true e other means =
    let is : doc_with_floats bytes max_bytes ≡ Err TooLarge = rw e refl in
    none_of_large flags (subst (λ (t : Result Shape TextFault). TextMeans t (Ok flags)) is means)
by_length bytes flags false e other means =
    let is : doc_with_floats bytes max_bytes ≡ Err NotJson = rw (e, no_utf8 bytes other (is_utf8 bytes) refl) refl in
    none_of_other flags (subst (λ (t : Result Shape TextFault). TextMeans t (Ok flags)) is means)

pub no_flags : (bytes : List ℕ) (flags : Definitions) → (IsUtf8 bytes → ⊥) → MeansAs true bytes (Ok flags) → ⊥
no_flags bytes flags other means = by_length bytes flags (nat_lt max_bytes (length bytes)) refl other means
