-- Whether lines are those of notes, as far as they are looked at.
use Rattle.std.specs.Prelude.{◌≡◌, ◌⊎◌, ℕ, zero, suc, List, [], ◌∷◌, Bool, true, false}
use Rattle.note_lines.specs.Note.{Noted}
use Rattle.note_lines.specs.Blank.{is_blank}
use Rattle.note_lines.specs.Lines.{IsLineOf, IsStray, ended}

-- the line is blank, or that of a note
abbrev pub IsKept : List ℕ → Type 0
IsKept line = (is_blank line ≡ true) ⊎ ((note : Noted) × IsLineOf line note)

-- the line is that of no note, or kept
abbrev pub IsTold : List ℕ → Bool → Type 0
IsTold line true = IsStray line
IsTold line false = IsKept line

-- Of the parts of a file, of which the last is no line: among the first so many lines there is one of no note, or there is none.
abbrev pub IsAstray : ℕ → List (List ℕ) → Bool → Type 0
IsAstray zero parts found = found ≡ false
IsAstray (suc n) [] found = found ≡ false
IsAstray (suc n) (rest ∷ []) found = found ≡ false
IsAstray (suc n) (line ∷ next ∷ parts) found = (IsStray (ended line) × (found ≡ true)) ⊎ (IsKept (ended line) × IsAstray n (next ∷ parts) found)
