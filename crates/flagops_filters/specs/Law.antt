-- What the tally of joined files amounts to.
use Rattle.std.specs.Prelude.{◌≡◌, ℕ, List, [], ◌∷◌, Ok}
use Rattle.book_core.specs.Book.{Inputs}
use Rattle.flagops_shell.specs.Files.{Holding}
use Rattle.note_tallies.specs.JoinLaw as tally
use Rattle.note_tallies.specs.Tally.{PageTally}
use Rattle.note_tallies.specs.Joined.{all_of}
use Rattle.flagops_filters.specs.Join.{IsTallyOf, JoinsAllFiles}

-- what is read at a path is the tally of these inputs
abbrev pub HoldsTally : Holding → List ℕ → Inputs → Type 0
HoldsTally at path members = (t : PageTally) → IsTallyOf at path (Ok t) → tally.IsRangeOf members t

-- the same at each path of its own set
abbrev pub HoldTallies : Holding → List (List ℕ) → List Inputs → Type 0
HoldTallies at [] sets = sets ≡ []
HoldTallies at (path ∷ paths) sets = (members : Inputs) × (others : List Inputs) × (sets ≡ members ∷ others) × HoldsTally at path members × HoldTallies at paths others

-- what is joined of files with the tallies of sets of inputs is the tally of their union, in which each input is there once
abbrev pub JoinsFileSets : Type 0
JoinsFileSets = (at : Holding) (paths : List (List ℕ)) (sets : List Inputs) (all : PageTally) → HoldTallies at paths sets → JoinsAllFiles at paths (Ok all) → tally.IsRangeOf (all_of sets) all
