-- Lines that are neither blank nor those of notes, with an input or without, and where the first of them stands.
use Rattle.std.specs.Prelude.{◌≡◌, ◌⊎◌, ℕ, zero, suc, Bool, true, false, List, [], ◌∷◌}
use Rattle.std.specs.List.{AllByRecursion}
use Rattle.note_tallies.specs.Lines.{IsSaid, Said, said_line}
use Rattle.note_tallies.specs.Refusals.{SaysNothing}
use Rattle.note_tallies.specs.Blank.{is_blank}
use Rattle.note_streams.specs.LogLines.{lines_in}

-- the line is not blank, and is that of no note
pub record IsStray (line : List ℕ) : Type 0 where
  pub some : is_blank line ≡ false
  pub none : SaysNothing line

-- the line is blank, or that of a note
abbrev pub IsKept : List ℕ → Type 0
IsKept line = (is_blank line ≡ true) ⊎ ((said : Said) × IsSaid said × (line ≡ said_line said))

abbrev pub AreKept : List (List ℕ) → Type 0
AreKept lines = AllByRecursion IsKept lines

-- line n, from 1, is the first stray one
abbrev pub IsFirstIn : List (List ℕ) → ℕ → Type 0
IsFirstIn [] n = ⊥
IsFirstIn (line ∷ lines) n = (IsStray line × (n ≡ 1)) ⊎ (IsKept line × (k : ℕ) × (n ≡ suc k) × IsFirstIn lines k)

-- it stands on line n, from 1, of file i, from 0, and the files before it have none
abbrev pub IsFirstStray : List (List ℕ) → ℕ → ℕ → Type 0
IsFirstStray [] i n = ⊥
IsFirstStray (file ∷ files) zero n = IsFirstIn (lines_in file) n
IsFirstStray (file ∷ files) (suc i) n = AreKept (lines_in file) × IsFirstStray files i n

-- ---- for private clauses

-- what is told of a line
abbrev pub IsTold : List ℕ → Bool → Type 0
IsTold line true = IsStray line
IsTold line false = IsKept line

-- whether it says something
abbrev pub SaysWhether : List ℕ → Bool → Type 0
SaysWhether line true = (said : Said) × IsSaid said × (line ≡ said_line said)
SaysWhether line false = SaysNothing line
