-- What the calls of a log's file do to its bytes, where they are known.
use Rattle.std.specs.Prelude.{◌≡◌, ◌^◌, ◌-◌, ℕ, Bool, true, false, List, ◌++◌, length, min, take, Option, Result, IfSome, MatchResult, option_map}
use Rattle.std.specs.Io.KnownBytes.{append_known}

-- n is how many bytes there are, as far as 64 bits go
abbrev pub IsLength : ℕ → Option (List ℕ) → Type 0
IsLength n bytes = IfSome bytes (λ bs. n ≡ min (length bs) (2 ^ 64 - 1))

-- these stand among the bytes, from this place on
abbrev pub Shows : Option (List ℕ) → ℕ → List ℕ → Type 0
Shows bytes place shown = IfSome bytes (λ bs. (before : List ℕ) × (after : List ℕ) × (bs ≡ before ++ (shown ++ after)) × (length before ≡ place))

-- the front that was taken has come to the end, and nothing where none was
abbrev pub GrowsByTaken : {E : Type 0} → Option (List ℕ) → Option (List ℕ) → Result ℕ E → List ℕ → Type 0
GrowsByTaken old new result buf = MatchResult result (λ n. new ≡ append_known old (take n buf)) (λ _. new ≡ old)

-- the first n bytes
abbrev pub cut_known : ℕ → Option (List ℕ) → Option (List ℕ)
cut_known n bytes = option_map (take n) bytes

-- 1 for a fault
abbrev pub count_of : Bool → ℕ
count_of true = 1
count_of false = 0
