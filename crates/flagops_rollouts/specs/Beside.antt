-- What a person is told beside an answer: one part after another.
use Rattle.std.specs.Prelude.{◌≡◌, ◌++◌, ◌||◌, ℕ, Bool, true, false, List, [], ◌∷◌, string_bytes, Option, Some, None, Result, Ok, Err}
use Rattle.flagops_shell.specs.Diagnostic.{Says}
use Rattle.flagops_shell.specs.declared.refused.Remark.{Remark}
use Rattle.flagops_shell.specs.declared.refused.Remark.TheVariants.{Short, Lines}

-- what the lines on one thing say
abbrev pub Part : Type 1
Part = List ℕ → Type 0

-- a part, where there is something to tell
abbrev pub part_if : Bool → Part → List Part
part_if true Is = Is ∷ []
part_if false Is = []

-- lines are these parts, one after another, and nothing else
abbrev pub AreParts : List Part → List ℕ → Type 0
AreParts [] lines = lines ≡ []
AreParts (Is ∷ parts) lines = (part rest : List ℕ) × Is part × AreParts parts rest × (lines ≡ part ++ rest)

-- a person is told these parts; where memory ran out a fixed sentence stands for all of them
abbrev pub Tells : List Part → Option Remark → Type 0
Tells [] told = told ≡ None
Tells (Is ∷ parts) None = ⊥
Tells (Is ∷ parts) (Some remark) = Says (AreParts (Is ∷ parts)) remark

-- one remark, and another behind it
abbrev pub AreBoth : Option Remark → Option Remark → Option Remark → Type 0
AreBoth None more whole = whole ≡ more
AreBoth (Some first) None whole = whole ≡ Some first
AreBoth (Some first) (Some more) None = ⊥
AreBoth (Some first) (Some more) (Some Short) = Unit {0}
AreBoth (Some (Lines lines)) (Some (Lines more)) (Some (Lines whole)) = string_bytes whole ≡ string_bytes lines ++ string_bytes more
AreBoth (Some first) (Some more) (Some (Lines whole)) = ⊥

-- what is told is what was noted, and these parts behind it, or before it
abbrev pub AreBehind : List Part → Option Remark → Option Remark → Type 0
AreBehind parts noted told = (more : Option Remark) × Tells parts more × AreBoth noted more told

abbrev pub AreBefore : List Part → Option Remark → Option Remark → Type 0
AreBefore parts noted told = (first : Option Remark) × Tells parts first × AreBoth first noted told

-- a person is told what was settled, and one thing more where it is there
abbrev pub noted_with : {E : Type 0} → Bool → Result Bool E → Result Bool E
noted_with more (Ok told) = Ok (told || more)
noted_with more (Err e) = Err e
