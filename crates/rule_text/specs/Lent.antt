-- Entries whose names lie in a text.
use Rattle.std.specs.Prelude.{ℕ, List, map}
use Rattle.std.specs.Borrow.{Bor}
use Rattle.bucket_core.specs.Rule.{Entries}

-- the entry, without where its name lies
abbrev pub lent_entry : Bor (List ℕ) × ℕ → List ℕ × ℕ
lent_entry e = (e.0.now, e.1)

abbrev pub lent_view : List (Bor (List ℕ) × ℕ) → Entries
lent_view es = map lent_entry es
