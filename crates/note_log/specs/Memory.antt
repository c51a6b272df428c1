-- The lines that are remembered, each with the number of the file that it was handed to.
use Rattle.std.specs.Prelude.{◌≡◌, ℕ, Bool, false, List, Contains, Vec, nat_eq, ◌⊎◌, Option, Some, None}
use Rattle.std.specs.Cmp.Lexicographic.{pointwise}
use Rattle.std.specs.Map.{lookup}
use Rattle.std.specs.declared.alloc.Global.{Global}
use Rattle.log_file.specs.declared.handed.Handed.{Handed}
use Rattle.note_log.specs.Files.{History, StandsIn, is_among}
use Rattle.note_log.specs.Line.{HasLine}
use Rattle.log_file.specs.Handed.{handed_in}

abbrev pub Remembered : Type 0
Remembered = List (Vec ℕ Global × ℕ)

-- the line stands in what the file of this number was handed
abbrev pub StandsAt : History → ℕ → List ℕ → Type 0
StandsAt history number line = (h : Handed × ℕ) × Contains history h × (h.1 ≡ number) × HasLine line (handed_in h.0.writes.items)

-- each remembered line stands in what the file of its number was handed
abbrev pub AllStand : History → Remembered → Type 0
AllStand history remembered = (e : Vec ℕ Global × ℕ) → Contains remembered e → StandsAt history e.1 e.0.items

-- the line is the same as the key
abbrev pub is_line : List ℕ → Vec ℕ Global → Bool
is_line line key = pointwise nat_eq line key.items

-- there is a number, of a file that is open
abbrev pub is_of_open : List ℕ → Option ℕ → Bool
is_of_open opened None = false
is_of_open opened (Some number) = is_among number opened

-- the line is remembered, of a file that is open
abbrev pub is_known : List ℕ → Remembered → List ℕ → Bool
is_known opened remembered line = is_of_open opened (lookup (is_line line) remembered)

-- each of the lines stands in the bytes
abbrev pub StandAll : List ℕ → List (Vec ℕ Global) → Type 0
StandAll bytes lines = (line : Vec ℕ Global) → Contains lines line → HasLine line.items bytes

-- each of the lines stands in what the file of this number was handed
abbrev pub AllStandAt : History → ℕ → List (Vec ℕ Global) → Type 0
AllStandAt history number lines = (line : Vec ℕ Global) → Contains lines line → StandsAt history number line.items

-- some of several lines, and each of the others stands in what one of these files was handed
abbrev pub AreLeft : List (Vec ℕ Global) → List (Vec ℕ Global) → List (List ℕ) → Type 0
AreLeft lines left shown =
    ((line : Vec ℕ Global) → Contains left line → Contains lines line)
    × ((line : Vec ℕ Global) → Contains lines line → Contains left line ⊎ StandsIn line.items shown)
