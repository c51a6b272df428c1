-- What is doubted of flags by their targetings.
use Rattle.std.specs.Prelude.{ℕ, Bool, List, [], ◌∷◌, ◌++◌, if◌then◌else◌}
use Rattle.std.specs.List.{flat_map}
use Rattle.flag_defs.specs.Definition.{Definition}
use Rattle.flag_defs.specs.Document.{Definitions}
use Rattle.flag_doubts.specs.Doubts.{gives_foreign, gives_none, is_weighed_badly, name_of}
use Rattle.flag_doubts.specs.declared.doubt.Doubt.{Doubt}
use Rattle.flag_doubts.specs.declared.doubt.Doubt.TheVariants.{Weight, Variant, Never}
use Rattle.control_flags.specs.Joined.{joined, pair_text}

-- the row of a doubt, where there is reason for it
abbrev pub row_if : Bool → List ℕ → Doubt → List (List ℕ)
row_if is key doubt = if is then pair_text key (name_of doubt) ∷ [] else []

-- those of a flag
abbrev pub doubt_rows : List ℕ × Definition → List (List ℕ)
doubt_rows flag = row_if (is_weighed_badly flag.1) flag.0 Weight ++ (row_if (gives_foreign flag.1) flag.0 Variant ++ row_if (gives_none flag.1) flag.0 Never)

-- those of flags, in their order
unfoldable pub doubts_text : Definitions → List ℕ
doubts_text flags = joined (flat_map doubt_rows flags)
