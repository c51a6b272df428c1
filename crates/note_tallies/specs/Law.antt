-- What is tallied of many lines.
use Rattle.std.specs.Prelude.{◌≡◌, ◌<◌, ◌≤◌, ◌⊎◌, ℕ, List, [], ◌∷◌, length, map, filter, IsPermutation, Result, Ok, Err}
use Rattle.std.specs.List.{AllByRecursion}
use Rattle.std.specs.List.Sorted.{IsStrictlySortedBy}
use Rattle.book_core.specs.Book.{Inputs, IsExposure}
use Rattle.book_core.specs.Page.{PageName, bytes_cmp, page_eq}
use Rattle.note_lines.specs.Hashed.{Hashed, hashed_line}
use Rattle.note_lines.specs.Note.{IsNote, Noted, note_line}
use Rattle.note_tallies.specs.JoinLaw.{IsRangeOf, IsRangeOfHashes, IsTallyOf}
use Rattle.note_tallies.specs.Tally.{most_at_point, noted_on}
use Rattle.note_tallies.specs.Lines.{IsSaid, Said, Tallied, finished, of_hash, of_input, untallied, with_said}
use Rattle.note_tallies.specs.declared.fault.LineTallyFault.{LineTallyFault}

-- what lines that say this change, one after the other, or the first refusal
abbrev pub with_saids : Result Tallied LineTallyFault → List Said → Result Tallied LineTallyFault
with_saids (Err fault) saids = Err fault
with_saids (Ok t) [] = Ok t
with_saids (Ok t) (said ∷ saids) = with_saids (with_said t said) saids

-- the same of the lines of notes, and of notes without inputs
abbrev pub with_notes : Result Tallied LineTallyFault → List Noted → Result Tallied LineTallyFault
with_notes r notes = with_saids r (map of_input notes)

abbrev pub with_hashes : Result Tallied LineTallyFault → List Hashed → Result Tallied LineTallyFault
with_hashes r notes = with_saids r (map of_hash notes)

-- the notes of a page
abbrev pub notes_of : PageName → List Noted → List Noted
notes_of page notes = filter (λ note. page_eq note.page page) notes

-- their inputs
abbrev pub inputs_of : PageName → List Noted → Inputs
inputs_of page notes = map (λ note. note.input) (notes_of page notes)

-- The lines of the notes rise strictly, so each is there once, and what was tallied is the tally of the page's inputs among them.
pub record IsTallyOfNotes (page : PageName) (notes : List Noted) (t : Tallied) : Type 0 where
  pub rising : IsStrictlySortedBy bytes_cmp (map note_line notes)
  pub same : t.page ≡ page
  pub tally : IsRangeOf (inputs_of page notes) (finished t)

-- the hashes of a page
abbrev pub hashes_of : PageName → List Hashed → List ℕ
hashes_of page notes = map (λ note. note.hash) (filter (λ note. page_eq note.page page) notes)

-- The lines of the notes without inputs rise strictly, so each is there once, and what was tallied is the tally of the page's hashes among them.
pub record IsTallyOfHashedNotes (page : PageName) (notes : List Hashed) (t : Tallied) : Type 0 where
  pub rising : IsStrictlySortedBy bytes_cmp (map hashed_line notes)
  pub same : t.page ≡ page
  pub tally : IsRangeOfHashes (hashes_of page notes) (finished t)

-- they are all notes, or all notes without inputs
abbrev pub AreOfOneKind : List Said → Type 0
AreOfOneKind saids = ((notes : List Noted) × (saids ≡ map of_input notes)) ⊎ ((notes : List Hashed) × (saids ≡ map of_hash notes))

-- where no line is refused
abbrev pub TalliedAreOfOneKind : Type 0
TalliedAreOfOneKind = (page : PageName) (total : ℕ) (saids : List Said) (t : Tallied) → AllByRecursion IsSaid saids → with_saids (Ok (untallied page total)) saids ≡ Ok t → AreOfOneKind saids

-- none of the notes is refused, and what was tallied of them is the tally of these inputs of the page
abbrev pub AreTalliedAs : PageName → ℕ → List Noted → Inputs → Type 0
AreTalliedAs page total notes inputs = (t : Tallied) × (with_notes (Ok (untallied page total)) notes ≡ Ok t) × (t.page ≡ page) × IsTallyOf inputs (finished t)

-- Notes whose lines rise strictly are tallied as the inputs of the page among them, in any order, where these are no more than may be on one point.
abbrev pub SortedNotesAreTallied : Type 0
SortedNotesAreTallied = (page : PageName) (total : ℕ) (notes : List Noted) (inputs : Inputs) → 0 < total → IsStrictlySortedBy bytes_cmp (map note_line notes) → IsPermutation (inputs_of page notes) inputs → length inputs ≤ most_at_point
    → AreTalliedAs page total notes inputs

-- The lines of a page of a book can be sorted, and then they are tallied as the inputs of the book.
abbrev pub BookPagesAreTallied : Type 0
BookPagesAreTallied = (page : PageName) (total : ℕ) (inputs : Inputs) → 0 < total → IsExposure inputs → AllByRecursion (λ input. IsNote (noted_on page input)) inputs
    → (sorted : Inputs) × IsPermutation sorted inputs × AreTalliedAs page total (map (noted_on page) sorted) inputs
