-- Which flags of a document have variants with numbers that are not whole.
use Rattle.std.specs.Prelude.{ℕ, List, [], ◌∷◌, codes, Bool, false, Option, Some, None}
use Rattle.json.specs.Find.{get}
use Rattle.json.specs.Json.{Json, null, boolean, number, string, array, object, Members, no_members, member}
use Rattle.flag_text.specs.Grammar.{value_in}
use Rattle.spelled_numbers.specs.Floats.{has_floats}

abbrev pub if_floats : Option Json → Bool
if_floats None = false
if_floats (Some j) = has_floats j

-- the variants of a flag, the last of its members of this name, have such numbers
abbrev pub are_floats_in : Json → Bool
are_floats_in flag = if_floats (get (codes "variants") flag)

-- each flag by its key; of flags of one key the last counts
abbrev pub marks_of : Members → List (List ℕ × Bool)
marks_of no_members = []
marks_of (member k j ms) = (k, are_floats_in j) ∷ marks_of ms

abbrev pub marks_among : Json → List (List ℕ × Bool)
marks_among (object ms) = marks_of ms
marks_among null = []
marks_among (boolean b) = []
marks_among (number s) = []
marks_among (string s) = []
marks_among (array js) = []

abbrev pub if_flags : Option Json → List (List ℕ × Bool)
if_flags None = []
if_flags (Some flags) = marks_among flags

-- those of the flags of a document
abbrev pub marks_in : Json → List (List ℕ × Bool)
marks_in document = if_flags (get (codes "flags") document)

abbrev pub marks_or_none : Option Json → List (List ℕ × Bool)
marks_or_none None = []
marks_or_none (Some j) = marks_in j

-- those of the document that bytes are
abbrev pub marks_of_text : List ℕ → List (List ℕ × Bool)
marks_of_text bytes = marks_or_none (value_in bytes)
