-- The readings of a text and of its respelled form.
use Rattle.std.proofs.Common.{◌≡◌, ℕ, ◌≤◌, true, false, List, length, Result, Err, refl, ap, arith, inl, inr}
use Rattle.std.proofs.lemmas.Bool.{cases_Bool}
use Rattle.std.specs.Prelude.{nat_lt, if◌then◌else◌}
use Rattle.std.specs.Str.{IsUtf8, is_utf8}
use Rattle.std.proofs.lemmas.Str.{IsUtf8-from_is_utf8}
use Rattle.flag_text.specs.Reading.{doc_of, if_json, json_of}
use Rattle.flag_text.specs.Shape.{Shape}
use Rattle.flag_text.specs.declared.fault.TextFault.{TextFault}
use Rattle.flag_text.specs.declared.fault.TextFault.TheVariants.{NotJson, TooLarge}
use Rattle.spelled_numbers.specs.Sent.{respelled, sent_of}

pub doc_within : (bytes : List ℕ) (limit : ℕ) → length bytes ≤ limit → doc_of bytes limit ≡ if_json (json_of bytes)
doc_within bytes limit h = let k : nat_lt limit (length bytes) ≡ false = grind (arith, h) in rw k refl

same_text : (bytes : List ℕ) → respelled bytes ≡ bytes → (if is_utf8 bytes then if_json (json_of (respelled bytes)) else Err NotJson) ≡ if_json (json_of bytes)
unfolding json_of
same_text bytes e = elim (cases_Bool (is_utf8 bytes)) [ inl u ↦ rw (e, u) refl | inr u ↦ rw u refl ]

pub stays : (bytes : List ℕ) (limit : ℕ) → respelled bytes ≡ bytes → sent_of bytes limit ≡ doc_of bytes limit
stays bytes limit e = ap (λ (r : Result Shape TextFault). if nat_lt limit (length bytes) then Err TooLarge else r) (same_text bytes e)

pub sent_text : (bytes : List ℕ) (limit : ℕ) → length bytes ≤ limit → is_utf8 bytes ≡ true → if_json (json_of (respelled bytes)) ≡ sent_of bytes limit
sent_text bytes limit h u = let k : nat_lt limit (length bytes) ≡ false = grind (arith, h) in rw (k, u) refl

pub sent_no_text : (bytes : List ℕ) (limit : ℕ) → length bytes ≤ limit → is_utf8 bytes ≡ false → sent_of bytes limit ≡ Err NotJson
sent_no_text bytes limit h u = let k : nat_lt limit (length bytes) ≡ false = grind (arith, h) in rw (k, u) refl

pub not_both : true ≡ false → ⊥
not_both e = cc

pub is_no_text : (bytes : List ℕ) → (IsUtf8 bytes → ⊥) → is_utf8 bytes ≡ false
is_no_text bytes n = elim (cases_Bool (is_utf8 bytes)) [ inl u ↦ absurd (n (IsUtf8-from_is_utf8 bytes u)) | inr u ↦ u ]
