-- What is printed for flags, and when bytes read as it.
use Rattle.std.specs.Prelude.{◌≡◌, ◌≤◌, ℕ, List, codes, length, Ok}
use Rattle.flag_text.specs.Reading.{tree_of, max_levels}
use Rattle.flag_text.specs.Shape.{Shape, object, no_members, member, levels}
use Rattle.flag_defs.specs.Document.{Definitions, definitions_written}

-- the tree that is printed for flags
abbrev pub document_written : Definitions → Shape
document_written fs = object (member (codes "flags") (object (definitions_written fs)) no_members)

-- within the limits of texts the bytes read as this tree
abbrev pub ReadsBack : List ℕ → Shape → Type 0
ReadsBack bytes t = (limit : ℕ) → levels t ≤ max_levels → length bytes ≤ limit → tree_of bytes limit ≡ Ok t
