-- What the number of an answer tells.
use Rattle.std.proofs.Common.{◌≡◌, ◌≢◌, ℕ, Option, Some, None, Result, Ok, Err, IfSome, IfErr, IsErrOf, IsOk, OnOk, ap, sym, subst, ◌∙◌, nat_eq, true≢false}
use Rattle.library_seat.specs.Refusal.{number_of}
use Rattle.library_seat.specs.View.{seat_view}
use Rattle.library_seat.specs.declared.refusal.Refusal.{Refusal}
use Rattle.library_seat.specs.declared.refusal.Refusal.TheVariants.{WantOfMemory}
use Rattle.library_seat.specs.declared.seat.Seat.{Seat}
use Rattle.flagops_c.specs.Calls.{result_number, standing}

-- the refusal that has to come has its number
early_number : (o : Option Refusal) (n : ℕ) (answer : Result (Unit {0}) Refusal) → n ≡ result_number answer → IfSome o (λ e. IsErrOf answer e) → IfSome o (λ e. n ≡ number_of e)
early_number None n answer is early = tt
early_number (Some e) n answer is early = is ∙ ap result_number early

-- the same where a seat is held
pub early_of_held : (s : Option Seat) (o : Option Refusal) (n : ℕ) (answer : Result (Unit {0}) Refusal) → n ≡ result_number answer → IfSome o (λ e. IsErrOf answer e) → IfSome s (λ _. IfSome o (λ e. n ≡ number_of e))
early_of_held None o n answer is early = tt
early_of_held (Some seat) o n answer is early = early_number o n answer is early

-- the same where it has a context
pub early_of_kept : (s : Option Seat) (seat : Seat) (o : Option Refusal) (n : ℕ) (answer : Result (Unit {0}) Refusal) → Some seat ≡ s → n ≡ result_number answer
    → ((seat_view seat).context ≢ None → IfSome o (λ e. IsErrOf answer e)) → IfSome (standing s) (λ t. t.context ≢ None → IfSome o (λ e. n ≡ number_of e))
early_of_kept s seat o n answer was is early =
    subst (λ (held : Option Seat). IfSome (standing held) (λ t. t.context ≢ None → IfSome o (λ e. n ≡ number_of e))) was (λ some. early_number o n answer is (early some))

-- 0 is the number of no refusal
pub done : (P Q : Type 0) (answer : Result (Unit {0}) Refusal) (n : ℕ) → n ≡ result_number answer → IfErr answer (λ e. (e ≡ WantOfMemory) × Q) → OnOk answer P → n ≡ 0 → P
done P Q (Ok it) n is refused holds zero = holds
done P Q (Err e) n is refused holds zero =
    let wrong : 1 ≡ 0 = sym (is ∙ ap number_of refused.0) ∙ zero in absurd (true≢false (ap (λ (m : ℕ). nat_eq m 1) wrong))

-- and of what was done
pub succeeded : (answer : Result (Unit {0}) Refusal) (n : ℕ) → n ≡ result_number answer → IsOk answer → n ≡ 0
succeeded (Ok it) n is ok = is
succeeded (Err e) n is ok = absurd (true≢false (sym ok))
