-- The one shape of a rule among all that give each point the same name.
use Rattle.std.specs.Prelude.{ℕ, ◌<◌, ◌≢◌, List, [], ◌∷◌, ⊤}
use Rattle.bucket_core.specs.Rule.{Entries}

-- the first entry, if there is one, has another name
abbrev pub BeginsApart : List ℕ → Entries → Type 0
BeginsApart name [] = ⊤
BeginsApart name (e ∷ es) = e.0 ≢ name

-- no entry has weight 0, and neighbours have different names
abbrev pub IsCanonical : Entries → Type 0
IsCanonical [] = ⊤
IsCanonical (e ∷ es) = (0 < e.1) × BeginsApart e.0 es × IsCanonical es
