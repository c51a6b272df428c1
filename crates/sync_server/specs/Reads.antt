-- How often an inlet was read.
use Rattle.std.specs.Prelude.{◌≡◌, ℕ, zero, suc, ◌≤◌, Option, Some}
use Rattle.sync_server.specs.declared.end.ReadEnd.{ReadEnd}
use Rattle.sync_server.specs.declared.end.ReadEnd.TheVariants.{Limit}

-- so many reads, one after the other, lead from what it was to what it is
abbrev pub AfterReads : {X : Type 0} → (X → X → Type 0) → ℕ → X → X → Type 0
AfterReads was_read zero x y = y ≡ x
AfterReads was_read (suc n) x y = (z : _) × AfterReads was_read n x z × was_read z y

-- it was read at most so often
abbrev pub ReadUpTo : {X : Type 0} → (X → X → Type 0) → ℕ → X → X → Type 0
ReadUpTo was_read limit x y = (n : ℕ) × (n ≤ limit) × AfterReads was_read n x y

-- the same, and just so often where the limit is told
abbrev pub ReadWithin : {X : Type 0} → (X → X → Type 0) → ℕ → X → X → Option ReadEnd → Type 0
ReadWithin was_read limit x y (Some Limit) = AfterReads was_read limit x y
ReadWithin was_read limit x y result = ReadUpTo was_read limit x y
