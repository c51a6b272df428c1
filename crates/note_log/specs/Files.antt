-- The files that the logs of a process have open, each by a number of its own, and what they were handed.
use Rattle.std.specs.Prelude.{◌≡◌, ◌≢◌, ◌<◌, ◌⊎◌, ℕ, Bool, not, List, [], map, filter, nat_eq, Contains}
use Rattle.std.specs.List.{list_any}
use Rattle.log_file.specs.declared.handed.Handed.{Handed}
use Rattle.note_log.specs.Line.{HasLine}
use Rattle.log_file.specs.Handed.{handed_in}

-- what files were handed when lines of them were remembered, each with the number of its file
abbrev pub History : Type 0
History = List (Handed × ℕ)

-- the number is one of these
abbrev pub is_among : ℕ → List ℕ → Bool
is_among n numbers = list_any (λ m. nat_eq m n) numbers

-- the files that are open, and those of which something is kept, have numbers below the next one
abbrev pub AreBelow : ℕ → List ℕ → History → Type 0
AreBelow next opened history = ((n : ℕ) → Contains opened n → n < next) × ((h : Handed × ℕ) → Contains history h → h.1 < next)

-- no file that is open has the number, and nothing was kept of one
abbrev pub IsFresh : ℕ → List ℕ → History → Type 0
IsFresh n opened history = ((m : ℕ) → Contains opened m → m ≢ n) × ((h : Handed × ℕ) → Contains history h → h.1 ≢ n)

-- all of the numbers but n, or none
abbrev pub AreOthers : ℕ → List ℕ → List ℕ → Type 0
AreOthers n numbers others = (others ≡ filter (λ m. not (nat_eq m n)) numbers) ⊎ (others ≡ [])

-- what the files of these numbers were handed
abbrev pub handed_by : List ℕ → History → List (List ℕ)
handed_by opened history = map (λ h. handed_in h.0.writes.items) (filter (λ h. is_among h.1 opened) history)

-- the line stands in what one of several files was handed
abbrev pub StandsIn : List ℕ → List (List ℕ) → Type 0
StandsIn line files = (file : List ℕ) × Contains files file × HasLine line file
