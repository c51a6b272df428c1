-- The kinds of flags (OpenFeature: boolean, string, number and structure evaluation): that of the values of their variants.
use Rattle.std.specs.Prelude.{ℕ, Bool, List, [], ◌∷◌, Option, Some, None}
use Rattle.std.specs.List.{flat_map, zip}
use Rattle.flag_defs.specs.Definition.{Definition}
use Rattle.flag_defs.specs.Document.{Definitions}
use Rattle.flag_defs.specs.Flag.{variants_in}
use Rattle.flag_defs.specs.Floats.{Marks, floats_kind}
use Rattle.flag_defs.specs.Kind.{kind_of, word_of}
use Rattle.flag_defs.specs.declared.kind.Kind.{Kind}
use Rattle.flag_text.specs.Shape.{Members, no_members, member}
use Rattle.control_flags.specs.Joined.{joined, pair_text}

-- that of the first value; all are of one kind
abbrev pub first_kind : Members → Option Kind
first_kind no_members = None
first_kind (member k t ms) = kind_of t

abbrev pub kind_or : Option Kind → Option Kind → Option Kind
kind_or (Some kind) other = Some kind
kind_or None other = other

-- that of a flag, of which it is known whether it has floats; a broken one has none
abbrev pub kind_in : Definition → Bool → Option Kind
kind_in d floats = kind_or (floats_kind d floats) (first_kind (variants_in d))

-- the row of a key and a kind
abbrev pub rows_of : List ℕ → Option Kind → List (List ℕ)
rows_of key None = []
rows_of key (Some kind) = pair_text key (word_of kind) ∷ []

-- that of a flag with its mark
abbrev pub kind_rows : (List ℕ × Definition) × (List ℕ × Bool) → List (List ℕ)
kind_rows e = rows_of e.0.0 (kind_in e.0.1 e.1.1)

-- those of flags, of which these have floats, in their order
unfoldable pub kinds_text : Definitions → Marks → List ℕ
kinds_text flags marks = joined (flat_map kind_rows (zip flags marks))
