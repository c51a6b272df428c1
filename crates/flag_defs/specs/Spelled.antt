-- How flags are printed of which some have floats: the text of each value of a flag with floats stands for the value as it is.
use Rattle.std.specs.Prelude.{ℕ, List, [], ◌∷◌, ◌++◌, codes, Bool, Option, Some, None, unwrap_or, if◌then◌else◌}
use Rattle.std.specs.List.{zip}
use Rattle.flag_text.specs.Printing.{text_of}
use Rattle.flag_text.specs.Readers.{as_text}
use Rattle.flag_text.specs.Shape.{Shape, text, Members, no_members, member}
use Rattle.logic_ast.specs.Expression.{Expression}
use Rattle.logic_ast.specs.Writing.{written}
use Rattle.flag_defs.specs.Definition.{Definition, broken, good, Rules}
use Rattle.flag_defs.specs.Document.{Definitions, printed, state_text}
use Rattle.flag_defs.specs.Floats.{Marks, are_unmarked}

-- ---- variants

-- a value: a text that is its spelling stands for it as it is
abbrev pub value_spelled : Bool → Shape → List ℕ
value_spelled floats t = unwrap_or (if floats then as_text t else None) (text_of t)

abbrev pub member_spelled : Bool → List ℕ → Shape → List ℕ
member_spelled floats k t = text_of (text k) ++ (codes ":" ++ value_spelled floats t)

-- what follows the first
abbrev pub others_spelled : Bool → Members → List ℕ
others_spelled floats no_members = []
others_spelled floats (member k t ms) = codes "," ++ (member_spelled floats k t ++ others_spelled floats ms)

abbrev pub variants_spelled : Bool → Members → List ℕ
variants_spelled floats no_members = []
variants_spelled floats (member k t ms) = member_spelled floats k t ++ others_spelled floats ms

-- ---- a flag

abbrev pub default_spelled : Option (List ℕ) → List ℕ
default_spelled None = []
default_spelled (Some name) = codes "\"defaultVariant\":" ++ (text_of (text name) ++ codes ",")

abbrev pub targeting_spelled : Option Expression → List ℕ
targeting_spelled None = []
targeting_spelled (Some e) = codes ",\"targeting\":" ++ text_of (written e)

-- its members, sorted
abbrev pub head_spelled : Rules → List ℕ
head_spelled r = default_spelled r.default_variant ++ (codes "\"state\":" ++ (text_of (text (state_text r)) ++ targeting_spelled r.targeting))

abbrev pub tail_spelled : Bool → Members → List ℕ
tail_spelled floats ms = codes ",\"variants\":{" ++ (variants_spelled floats ms ++ codes "}")

abbrev pub rules_spelled : Bool → Rules → List ℕ
rules_spelled floats r = head_spelled r ++ tail_spelled floats r.variants

abbrev pub members_spelled : Bool → Definition → List ℕ
members_spelled floats broken = []
members_spelled floats (good r) = rules_spelled floats r

-- a flag with its key, and whether it has floats
abbrev pub Entry : Type 0
Entry = (List ℕ × Definition) × (List ℕ × Bool)

abbrev pub entry_spelled : Entry → List ℕ
entry_spelled e = text_of (text e.0.0) ++ (codes ":{" ++ (members_spelled e.1.1 e.0.1 ++ codes "}"))

-- ---- flags

abbrev pub other_entries_spelled : List Entry → List ℕ
other_entries_spelled [] = []
other_entries_spelled (e ∷ es) = codes "," ++ (entry_spelled e ++ other_entries_spelled es)

abbrev pub entries_spelled : List Entry → List ℕ
entries_spelled [] = []
entries_spelled (e ∷ es) = entry_spelled e ++ other_entries_spelled es

abbrev pub flags_spelled : Definitions → Marks → List ℕ
flags_spelled fs ms = codes "{\"flags\":{" ++ (entries_spelled (zip fs ms) ++ codes "}}")

-- the document of flags, of which these have floats: where none has, it is printed as without them
abbrev pub printed_with_floats : Definitions → Marks → List ℕ
printed_with_floats fs ms = if are_unmarked ms then printed fs else flags_spelled fs ms
