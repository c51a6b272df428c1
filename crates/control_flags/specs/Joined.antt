-- Texts, and lists of them.
use denote.Ref.{Bor}
use Rattle.std.specs.Prelude.{ℕ, Bool, true, List, [], ◌∷◌, ◌++◌, codes, decimal, if◌then◌else◌, Option, Some, None}
use Rattle.std.specs.List.{join_by}
use Rattle.flag_text.specs.Printing.{text_of}
use Rattle.flag_text.specs.Shape.{text}

abbrev pub quoted : List ℕ → List ℕ
quoted t = text_of (text t)

abbrev pub text_or_null : Option (List ℕ) → List ℕ
text_or_null None = codes "null"
text_or_null (Some t) = quoted t

abbrev pub number_or_null : Option ℕ → List ℕ
number_or_null None = codes "null"
number_or_null (Some n) = decimal n

-- a key, and a word about its flag
abbrev pub pair_text : List ℕ → List ℕ → List ℕ
pair_text key word = codes "[" ++ (quoted key ++ (codes ",\"" ++ (word ++ codes "\"]")))

-- rows with commas between
abbrev pub joined : List (List ℕ) → List ℕ
joined rows = join_by (λ (row : List ℕ). row) (codes ",") rows

abbrev pub comma_if : Bool → List ℕ
comma_if later = if later then codes "," else []

-- names as JSON texts
abbrev pub names_text : Bool → List (Bor (List ℕ)) → List ℕ
names_text later [] = []
names_text later (name ∷ names) = comma_if later ++ (quoted name.now ++ names_text true names)
