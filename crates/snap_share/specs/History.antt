-- The rule of the history of published flags, which exists in proofs alone: threads share its length, and what one has seen of it is its beginning.
use Rattle.std.specs.Prelude.{◌≡◌, ℕ, ◌==◌, true, List, [], ◌∷◌, ◌++◌, length}
use Rattle.std.specs.Bool.{MatchBool}
use Rattle.logbook.specs.Pages.{Book, Cell, Named, Step, View}
use Rattle.flag_defs.specs.declared.flags.Flags.{Flags}

-- the first word is the length of the history. The second is not used
pub record IsKept (cells : List Cell) (history : List Flags) : Type 0 where
  pub words : cells ≡ (length history, true) ∷ (0, true) ∷ []

abbrev pub head_of : Book → Named
head_of b = record { tracked = true; key = 0; book = b }

-- The flags were put behind all that had been seen; or the history was longer, and was seen.
abbrev pub Adds : Step Flags → View Flags ℕ → ℕ → View Flags ℕ → Type 0
Adds s v found w = MatchBool (found == s.old) (w.0 ≡ v.0 ++ s.ask ∷ []) (length w.0 ≡ found)
