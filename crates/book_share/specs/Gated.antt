-- What a gate is asked and told.
use Rattle.std.specs.Prelude.{◌≡◌, ◌≢◌, ◌<◌, ℕ, ◌+◌, ◌*◌, List, Result, IfErr, IfOk, IfSome, slice_get}
use Rattle.book_share.specs.declared.drive_fault.DriveFault.{DriveFault}
use Rattle.book_share.specs.declared.drive_fault.DriveFault.TheVariants.{Stalled}

-- how often a gate is asked whether an ask may start
abbrev pub most_attempts : ℕ
most_attempts = 1000000

-- the gate refused the ask at each attempt
abbrev pub IsClosed : (ℕ → ℕ → Type 0) → ℕ → Type 0
IsClosed refused ask = (attempt : ℕ) → attempt < most_attempts → refused ask attempt

-- Stalled comes only where the gate refused one of so many asks at each attempt
abbrev pub StallsOf : {X : Type 0} → (ℕ → ℕ → Type 0) → ℕ → Result X DriveFault → Type 0
StallsOf refused asks r = IfErr r (λ e. e ≡ Stalled → (ask : ℕ) × (ask < asks) × IsClosed refused ask)

-- it holds of each of so many asks
abbrev pub EachAsk : (ℕ → Type 0) → ℕ → Type 0
EachAsk P asks = (ask : ℕ) → ask < asks → P ask

-- it holds of each of them that a worker takes: the one of its own number, then each that comes as many after as there are workers
abbrev pub EachTurn : (ℕ → Type 0) → ℕ → ℕ → ℕ → Type 0
EachTurn P workers worker asks = (turn : ℕ) → worker + workers * turn < asks → P (worker + workers * turn)

-- it holds of one of them
abbrev pub SomeTurn : (ℕ → Type 0) → ℕ → ℕ → ℕ → Type 0
SomeTurn P workers worker asks = (turn : ℕ) × (worker + workers * turn < asks) × P (worker + workers * turn)

-- A refusal comes only where it holds of one of them, unless it is Stalled. A worker that takes no ask is not refused.
abbrev pub FailsAfter : {X : Type 0} → (ℕ → Type 0) → ℕ → ℕ → ℕ → Result X DriveFault → Type 0
FailsAfter P workers worker asks r = IfErr r (λ e. e ≢ Stalled → SomeTurn P workers worker asks)

-- it holds of each ask of each worker that was not refused
abbrev pub EachPart : {X : Type 0} → (ℕ → Type 0) → ℕ → ℕ → List (Result X DriveFault) → Type 0
EachPart P workers asks parts = (w : ℕ) → IfSome (slice_get parts w) (λ r. IfOk r (λ _. EachTurn P workers w asks))

-- each worker that was refused, not as Stalled, took an ask of which it holds
abbrev pub EachFailsAfter : {X : Type 0} → (ℕ → Type 0) → ℕ → ℕ → List (Result X DriveFault) → Type 0
EachFailsAfter P workers asks parts = (w : ℕ) → IfSome (slice_get parts w) (λ r. FailsAfter P workers w asks r)
