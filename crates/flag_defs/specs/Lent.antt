-- Flags that are lent under their keys.
use denote.Ref.{Bor}
use Rattle.std.specs.Prelude.{ℕ, ◌-◌, List, length, map}
use Rattle.flag_text.specs.Printing.{text_of}
use Rattle.flag_text.specs.Shape.{object, no_members, member}
use Rattle.flag_defs.specs.Definition.{Definition}
use Rattle.flag_defs.specs.Document.{Definitions, definition_written}
use Rattle.flag_defs.specs.Flag.{flag_view}
use Rattle.flag_defs.specs.declared.flag.Flag.{Flag}

-- what is lent
abbrev pub lent_view : List (Bor (List ℕ) × Bor Flag) → Definitions
lent_view es = map (λ e. (e.0.now, flag_view e.1.now)) es

-- ---- for private clauses

-- in how many bytes an entry is printed among others, with a comma: as many as alone between braces, less one
abbrev pub entry_bytes : List ℕ × Definition → ℕ
entry_bytes f = length (text_of (object (member f.0 (definition_written f.1) no_members))) - 1
