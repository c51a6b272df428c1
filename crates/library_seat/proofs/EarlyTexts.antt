-- A text that is refused before any memory is taken.
use Rattle.std.proofs.Common.{◌≡◌, ℕ, ◌<◌, ◌≤◌, ◌↔◌, List, length, Bool, true, false, if◌then◌else◌, refl, ap, ◌∙◌, arith, nat_lt, Some, None, Result, Err, IfSome, IsErrOf}
use Rattle.std.specs.Str.{is_utf8}
use Rattle.flag_text.specs.declared.fault.TextFault.{TextFault}
use Rattle.flag_text.specs.declared.fault.TextFault.TheVariants.{TooLarge, NotJson}
use Rattle.library_seat.specs.Early.{text_refusal}
use Rattle.library_seat.specs.Question.{max_text}
use Rattle.library_seat.specs.Refusal.{of_context}
use Rattle.library_seat.specs.declared.refusal.Refusal.{Refusal}
use Rattle.library_seat.specs.declared.refusal.Refusal.TheVariants as refusal

same_text_fault : (X : Type 0) (r : Result X TextFault) (a b : TextFault) → r ≡ Err a → r ≡ Err b → a ≡ b
same_text_fault X r a b one other = cc

above : (a b : ℕ) → nat_lt a b ≡ true → a < b
above a b is = grind (arith, is)

within : (a b : ℕ) → nat_lt a b ≡ false → b ≤ a
within a b is = grind (arith, is)

pub early_context : (X Y : Type 0) (bytes : List ℕ) (fault : TextFault) (result : Result Y Refusal) → result ≡ Err (of_context fault)
    → (IsErrOf {T = X} (Err fault) TooLarge ↔ (max_text < length bytes)) → (length bytes ≤ max_text → is_utf8 bytes ≡ false → IsErrOf {T = X} (Err fault) NotJson)
    → IfSome (text_refusal bytes) (λ e. IsErrOf result (refusal.Context e))
early_context X Y bytes fault result is large no_text = by_test (nat_lt max_text (length bytes)) refl (is_utf8 bytes) refl
  where
    by_test : (big : Bool) → nat_lt max_text (length bytes) ≡ big → (utf : Bool) → is_utf8 bytes ≡ utf
        → IfSome (if big then Some TooLarge else (if utf then None else Some NotJson)) (λ e. IsErrOf result (refusal.Context e))
    by_test true e utf u = is ∙ ap (λ (f : TextFault). Err (of_context f)) (same_text_fault X (Err fault) fault TooLarge refl (large.1 (above max_text (length bytes) e)))
    by_test false e true u = tt
    by_test false e false u = is ∙ ap (λ (f : TextFault). Err (of_context f)) (same_text_fault X (Err fault) fault NotJson refl (no_text (within max_text (length bytes) e) u))
