-- What a write to an outlet may do.
use Rattle.std.specs.Prelude.{◌<◌, ◌≤◌, ℕ, Bool, true, ◌&&◌, ◌==◌, nat_lt, List, length, take, Option, Result, Ok, Err}
use Rattle.std.specs.Io.KnownBytes.{Appends}

-- the write of these bytes failed, or took none of them though there are some
abbrev pub is_fault : {E : Type 0} → List ℕ → Result ℕ E → Bool
is_fault bs (Ok n) = nat_lt 0 (length bs) && n == 0
is_fault bs (Err e) = true

-- known bytes grow by a front of bs
abbrev pub AppendsPart : Option (List ℕ) → Option (List ℕ) → List ℕ → Type 0
AppendsPart old new bs = (n : ℕ) × (n ≤ length bs) × Appends old new (take n bs)

-- known bytes grow by a front of bs that isn't all of it
abbrev pub AppendsFront : Option (List ℕ) → Option (List ℕ) → List ℕ → Type 0
AppendsFront old new bs = (n : ℕ) × (n < length bs) × Appends old new (take n bs)
