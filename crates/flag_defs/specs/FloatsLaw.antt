-- What floats change in the flags of a document.
use Rattle.std.specs.Prelude.{◌≡◌, ◌↔◌, ℕ, true, List, Some, Result}
use Rattle.json.specs.Json.{Json}
use Rattle.flag_text.specs.Grammar.{value_in}
use Rattle.spelled_numbers.specs.Floats.{has_whole_numbers}
use Rattle.spelled_numbers.specs.Marks.{marks_of_text}
use Rattle.flag_defs.specs.Document.{Definitions, DocumentMeans}
use Rattle.flag_defs.specs.Floats.{MeansWithFloats, are_unmarked, marked}
use Rattle.flag_defs.specs.declared.fault.DefFault.{DefFault}

-- A document whose numbers are all whole means what it means without floats.
abbrev pub FloatsChangeNothing : Type 0
FloatsChangeNothing = (bytes : List ℕ) (j : Json) (r : Result Definitions DefFault) → value_in bytes ≡ Some j → has_whole_numbers j ≡ true → (MeansWithFloats bytes r ↔ DocumentMeans bytes r)

-- None of its flags has floats.
abbrev pub NoneHasFloats : Type 0
NoneHasFloats = (bytes : List ℕ) (j : Json) (fs : Definitions) → value_in bytes ≡ Some j → has_whole_numbers j ≡ true → are_unmarked (marked (marks_of_text bytes) fs) ≡ true

-- A document with floats means one thing.
abbrev pub HasOneMeaningWithFloats : Type 0
HasOneMeaningWithFloats = (bytes : List ℕ) (r s : Result Definitions DefFault) → MeansWithFloats bytes r → MeansWithFloats bytes s → r ≡ s
