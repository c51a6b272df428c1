-- The number that `parse` reads is the number that a word spells.
use Rattle.std.proofs.Common.{◌≡◌, ◌<◌, ◌≤◌, ◌^◌, ◌&&◌, ℕ, Bool, true, false, refl, subst, List, Some, None, ap, cond, nat_le}
use Rattle.std.specs.Prelude.{Result, Ok, Err}
use Rattle.std.specs.Str.Parse.{IsNumeral, ParsesUnsigned, digits_value, without_leading_plus}
use Rattle.std.proofs.lemmas.Bool.{le-leb, leb-true}
use Rattle.clap.proofs.ValueTestLemmas.{Accepts-accepts, accepts-Accepts}
use Rattle.clap.proofs.WalkLemmas.{both}
use Rattle.clap.specs.ValueTests.{is_unsigned_in}
use Rattle.clap.specs.declared.builder.value_parser.ValueParser.TheVariants.{Unsigned}
use Rattle.flagops_words.specs.Numbers.{number_in}

module _ (least most : ℕ) where
  accepted : (word : List ℕ) → is_unsigned_in least most word ≡ true
      → IsNumeral 10 (without_leading_plus word) × (digits_value 10 (without_leading_plus word) < 2 ^ 64) × (least ≤ digits_value 10 (without_leading_plus word)) × (digits_value 10 (without_leading_plus word) ≤ most)
  accepted word e = accepts-Accepts false (Unsigned least most) word e

  -- what is no number spells none
  pub unread : {E : Type 0} (word : List ℕ) (r : Result ℕ E) (e : E) → ParsesUnsigned 64 10 word r → r ≡ Err e → None ≡ number_in least most word
  unread {E} word r e p is = go (is_unsigned_in least most word) refl
    where
      no : ParsesUnsigned 64 10 word (Err e)
      no = subst (λ (x : Result ℕ E). ParsesUnsigned 64 10 word x) is p

      go : (b : Bool) → is_unsigned_in least most word ≡ b → None ≡ cond b (Some (digits_value 10 (without_leading_plus word))) None
      go true accepts = let read = accepted word accepts in absurd (no (read.0, read.1))
      go false accepts = refl

  -- a number is what the word spells, where it is within the bounds
  pub read : {E : Type 0} (word : List ℕ) (n : ℕ) (r : Result ℕ E) → ParsesUnsigned 64 10 word r → r ≡ Ok n → cond (nat_le least n && nat_le n most) (Some n) None ≡ number_in least most word
  read {E} word n r p is = go (nat_le least n && nat_le n most) refl (is_unsigned_in least most word) refl
    where
      value : ParsesUnsigned {E = E} 64 10 word (Ok n)
      value = subst (λ (x : Result ℕ E). ParsesUnsigned 64 10 word x) is p

      go : (b : Bool) → (nat_le least n && nat_le n most) ≡ b → (a : Bool) → is_unsigned_in least most word ≡ a → cond b (Some n) None ≡ cond a (Some (digits_value 10 (without_leading_plus word))) None
      go true within true accepts = ap Some value.1
      go true within false accepts =
          let parts = both _ _ within in
          let low : least ≤ digits_value 10 (without_leading_plus word) = rw (← value.1) (leb-true _ _ parts.0) in
          let high : digits_value 10 (without_leading_plus word) ≤ most = rw (← value.1) (leb-true _ _ parts.1) in
          let taken : is_unsigned_in least most word ≡ true = Accepts-accepts false (Unsigned least most) word (value.0.0, value.0.1, low, high) in
          cc
      go false outside true accepts =
          let low : least ≤ n = rw value.1 (accepted word accepts).2 in
          let high : n ≤ most = rw value.1 (accepted word accepts).3 in
          let first : nat_le least n ≡ true = le-leb _ _ low in
          let second : nat_le n most ≡ true = le-leb _ _ high in
          let inside : (nat_le least n && nat_le n most) ≡ true = rw (first, second) refl in
          cc
      go false outside false accepts = refl
