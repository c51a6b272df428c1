-- What holds of every log of notes.
use Rattle.std.specs.Prelude.{◌≡◌, ◌+◌, ◌-◌, ◌^◌, ℕ, List, map, min}
use Rattle.log_file.specs.declared.handed.Handed.{Handed}
use Rattle.log_file.specs.Line.{lines_in}
use Rattle.log_file.specs.Handed.{handed_in}

-- what each of several files was handed
abbrev pub earlier_in : List (Handed × ℕ) → List (List ℕ)
earlier_in files = map (λ f. handed_in f.0.writes.items) files

-- n counts the lines of some bytes: so many in those before and those of the last ones, as far as 64 bits go
abbrev pub IsCounted : ℕ → List ℕ → ℕ → Type 0
IsCounted before handed n = n ≡ min (before + lines_in handed) (2 ^ 64 - 1)
