-- The turns of a stream that is written: each asks for a number above the last that was written, and reads a snapshot.
use Rattle.std.specs.Prelude.{◌≡◌, ℕ, List, [], ◌∷◌, Option, Some, nat_lt, if◌then◌else◌}
use Rattle.sync_frames.specs.Snapshots.{Numbered}

-- the last number, behind a snapshot that was read
abbrev pub raised : ℕ → Numbered → ℕ
raised last s = if nat_lt last s.number then s.number else last

-- of snapshots that were read in turn, those whose number was above the last
abbrev pub newer : ℕ → List Numbered → List Numbered
newer last [] = []
newer last (s ∷ ss) = if nat_lt last s.number then s ∷ newer s.number ss else newer last ss

-- the last number, behind all of them
abbrev pub latest : ℕ → List Numbered → ℕ
latest last [] = last
latest last (s ∷ ss) = latest (raised last s) ss

-- Before each snapshot was read a number was asked for above the last. So the numbers became what they are, and so did the
-- place that the current snapshot is read from.
abbrev pub Turned : {X C : Type 0} → (X → ℕ → X → Type 0) → (C → Option Numbered → C → Type 0) → ℕ → X → C → List Numbered → X → C → Type 0
Turned asked was_read last x c [] y d = (y ≡ x) × (d ≡ c)
Turned asked was_read last x c (s ∷ ss) y d = (z : _) × (e : _) × asked x last z × was_read c (Some s) e × Turned asked was_read (raised last s) z e ss y d
