-- What an export on rollouts answers: the number of what the library call of its name answers.
use Rattle.std.specs.Prelude.{◌≡◌, ℕ, Bool, if◌then◌else◌, Result, Ok, Err}
use Rattle.library_seat.specs.Room.{Room}
use Rattle.library_rollouts.specs.Refusal.{number_of}
use Rattle.library_rollouts.specs.Writing.{Meaning, Writes}
use Rattle.library_rollouts.specs.declared.refusal.RolloutRefusal.{RolloutRefusal}

-- 0, or the number of the refusal
abbrev pub rollout_number : Result (Unit {0}) RolloutRefusal → ℕ
rollout_number (Ok done) = 0
rollout_number (Err e) = number_of e

-- the same of a plan that was written: 9 where it has no rule
abbrev pub planned_number : Result Bool RolloutRefusal → ℕ
planned_number (Ok has_rule) = if has_rule then 0 else 9
planned_number (Err e) = number_of e

-- The number is that of an answer, and the call comes to what `call` says of that.
module _ {A : Type 0} (number : A → ℕ) (call : A → Type 0) where
  abbrev pub Answers : ℕ → Type 0
  Answers n = (answer : A) × (n ≡ number answer) × call answer

-- the same of a call that writes
abbrev pub WritesBy : {A : Type 0} → (Result A RolloutRefusal → ℕ) → Meaning A → ℕ → Room → Room → Type 0
WritesBy number Is n old new = Answers number (λ answer. Writes Is answer old new) n
