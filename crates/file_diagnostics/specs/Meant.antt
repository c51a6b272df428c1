-- What follows the name of a member that is not read.
use Rattle.std.specs.Prelude.{◌≡◌, ◌++◌, ◌⊎◌, ℕ, List, codes, true}
use Rattle.member_names.specs.Unread.{reads}
use Rattle.member_names.specs.declared.reader.Reader.{Reader}
use Rattle.file_diagnostics.specs.Named.{quoted}

-- the end of the line, or before it a member that the reader takes
abbrev pub IsMeant : Reader → List ℕ → Type 0
IsMeant reader ending = (ending ≡ codes "\n") ⊎ ((name : List ℕ) × (reads reader name ≡ true) × (ending ≡ codes "; perhaps " ++ (quoted name ++ codes " is meant\n")))
