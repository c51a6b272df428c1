-- What the tally of a stream amounts to.
use Rattle.std.specs.Prelude.{ℕ, ◌<◌, ◌⊎◌, List, [], ◌∷◌, ◌++◌, map, IsPermutation, Ok}
use Rattle.book_core.specs.Book.{Inputs}
use Rattle.book_core.specs.Page.{PageName}
use Rattle.note_lines.specs.Hashed.{Hashed, hash_of}
use Rattle.note_lines.specs.Note.{Noted}
use Rattle.byte_streams.specs.Lines.{parts_of}
use Rattle.note_tallies.specs.Law.{hashes_of, inputs_of}
use Rattle.note_tallies.specs.Lines.{Tallied, finished, of_hash, of_input, untallied}
use Rattle.note_tallies.specs.JoinLaw.{AreHashesOf, IsEachOnce, IsTallyOf}
use Rattle.note_tallies.specs.Filter.{AreLinesOf, AreTalliedHashes, AreTalliedInputs}
use Rattle.note_streams.specs.Tallied.{Tallies}

-- the lines of a stream with their line feeds, of whose parts the last is none
abbrev pub lines_in : List (List ℕ) → List (List ℕ)
lines_in [] = []
lines_in (rest ∷ []) = []
lines_in (line ∷ next ∷ parts) = (line ++ 10 ∷ []) ∷ lines_in (next ∷ parts)

-- where no line is refused, they are blank or the lines of notes that rise strictly, all with inputs or all with hashes, and what was
-- tallied is the tally of the page's among them, each there once
abbrev pub StreamIsOfItsLines : Type 0
StreamIsOfItsLines = (page : PageName) (total : ℕ) (bytes : List ℕ) (last : Tallied) → 0 < total → Tallies (untallied page total) 0 (parts_of bytes) (Ok last)
    → AreTalliedInputs page (lines_in (parts_of bytes)) last ⊎ AreTalliedHashes page (lines_in (parts_of bytes)) last

-- it is the tally of the page's inputs in any order, as of a book that has these inputs
abbrev pub IsOfInputs : PageName → List (List ℕ) → Tallied → Type 0
IsOfInputs page lines last = (notes : List Noted) × AreLinesOf lines (map of_input notes) × ((inputs : Inputs) → IsPermutation (inputs_of page notes) inputs → IsTallyOf inputs (finished last))

-- it is the tally of all inputs that have the page's hashes, where no two of them have one hash
abbrev pub IsOfHashes : PageName → List (List ℕ) → Tallied → Type 0
IsOfHashes page lines last =
    (notes : List Hashed) × AreLinesOf lines (map of_hash notes) × ((inputs : Inputs) → AreHashesOf (hashes_of page notes) inputs → IsEachOnce (map hash_of inputs) → IsTallyOf inputs (finished last))

-- So what is planned on it is planned on the book of these inputs.
abbrev pub StreamIsOfItsInputs : Type 0
StreamIsOfItsInputs = (page : PageName) (total : ℕ) (bytes : List ℕ) (last : Tallied) → 0 < total → Tallies (untallied page total) 0 (parts_of bytes) (Ok last)
    → IsOfInputs page (lines_in (parts_of bytes)) last ⊎ IsOfHashes page (lines_in (parts_of bytes)) last
