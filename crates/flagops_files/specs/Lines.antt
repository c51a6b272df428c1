-- What a person is told of a file, in a line.
use Rattle.std.specs.Prelude.{◌≡◌, ◌++◌, ℕ, List, codes}
use Rattle.flag_text.specs.Printing.{text_of}
use Rattle.flag_text.specs.Shape.{text}

-- the line begins with the path, as a JSON text
abbrev pub NamesFile : List ℕ → List ℕ → Type 0
NamesFile path line = (rest : List ℕ) × (line ≡ codes "error: " ++ (text_of (text path) ++ rest))
