-- The keys of flags, a line each, as the program's `check` prints them.
use Rattle.std.specs.Prelude.{ℕ, List, [], ◌++◌, codes, if◌then◌else◌, Option, Some, None}
use Rattle.std.specs.List.{flat_map}
use Rattle.flag_text.specs.Printing.{text_of}
use Rattle.flag_text.specs.Shape.{text}
use Rattle.flag_defs.specs.Definition.{Definition}
use Rattle.flag_defs.specs.Document.{Definitions}
use Rattle.flag_defs.specs.Flag.{is_broken}

-- the key as a JSON text, and whether its flag is good or broken
abbrev pub key_line : List ℕ × Definition → List ℕ
key_line flag = text_of (text flag.0) ++ (if is_broken flag.1 then codes " broken\n" else codes " good\n")

abbrev pub keys_text : Option Definitions → List ℕ
keys_text None = []
keys_text (Some flags) = flat_map key_line flags
