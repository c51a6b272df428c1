-- What log files hold of a page: the finite set of the hash inputs whose note lines stand in them, or of the hashes where the notes are
-- without inputs; in whichever file and however often.
use Rattle.std.specs.Prelude.{◌≡◌, ◌≤◌, ◌⊎◌, ◌==◌, ℕ, List, ◌++◌, ◌∷◌, [], length, map, count_by}
use Rattle.std.specs.List.{AllByRecursion, Contains}
use Rattle.std.specs.List.Sorted.{IsStrictlySortedBy}
use Rattle.book_core.specs.Book.{Inputs}
use Rattle.book_core.specs.Page.{PageName, bytes_cmp}
use Rattle.note_tallies.specs.Lines.{IsSaid, Said, said_line, said_page, said_point}
use Rattle.note_lines.specs.Hashed.{Hashed, IsHashed, hashed_line}
use Rattle.note_lines.specs.Note.{IsNote, Noted, note_line}
use Rattle.note_tallies.specs.JoinLaw.{IsRangeOf, IsRangeOfHashes}
use Rattle.note_tallies.specs.Tally.{PageTally, hash_line_on, hashed_on, line_on, most_at_point, most_in_all, noted_on}
use Rattle.note_streams.specs.LogLines.{all_lines}

-- ---- what is recorded

-- it can be noted, and its line stands in one of the files
pub record IsHeldAs {X : Type 0} (IsOne : X → Type 0) (line : X → List ℕ) (files : List (List ℕ)) (x : X) : Type 0 where
  pub one : IsOne x
  pub there : Contains (all_lines files) (line x)

-- these are just those that are held, each once, by the order of their lines
pub record AreHeldAs {X : Type 0} (IsOne : X → Type 0) (line : X → List ℕ) (files : List (List ℕ)) (xs : List X) : Type 0 where
  pub once : IsStrictlySortedBy bytes_cmp (map line xs)
  pub each : AllByRecursion (IsHeldAs IsOne line files) xs
  pub all : (x : X) → IsHeldAs IsOne line files x → Contains xs x

-- an input of a page, by the line of its note
abbrev pub IsRecorded : List (List ℕ) → PageName → List ℕ → Type 0
IsRecorded files page input = IsHeldAs (λ input. IsNote (noted_on page input)) (line_on page) files input

abbrev pub AreRecorded : List (List ℕ) → PageName → Inputs → Type 0
AreRecorded files page inputs = AreHeldAs (λ input. IsNote (noted_on page input)) (line_on page) files inputs

-- the hash of one, by the line of its note without the input
abbrev pub IsHashRecorded : List (List ℕ) → PageName → ℕ → Type 0
IsHashRecorded files page hash = IsHeldAs (λ hash. IsHashed (hashed_on page hash)) (hash_line_on page) files hash

abbrev pub AreHashesRecorded : List (List ℕ) → PageName → List ℕ → Type 0
AreHashesRecorded files page hashes = AreHeldAs (λ hash. IsHashed (hashed_on page hash)) (hash_line_on page) files hashes

-- ---- its tally

-- of inputs, and no hash is recorded
pub record IsTallyOfInputs (files : List (List ℕ)) (page : PageName) (t : PageTally) : Type 0 where
  pub inputs : Inputs
  pub recorded : AreRecorded files page inputs
  pub no_hash : (hash : ℕ) → ¬ (IsHashRecorded files page hash)
  pub tally : IsRangeOf inputs t

-- of hashes, and no input is recorded
pub record IsTallyOfHashes (files : List (List ℕ)) (page : PageName) (t : PageTally) : Type 0 where
  pub hashes : List ℕ
  pub recorded : AreHashesRecorded files page hashes
  pub no_input : (input : List ℕ) → ¬ (IsRecorded files page input)
  pub tally : IsRangeOfHashes hashes t

-- The tally of what files hold of a page, in so many points.
pub record IsRecordTally (files : List (List ℕ)) (page : PageName) (total : ℕ) (t : PageTally) : Type 0 where
  pub page_is : t.page ≡ page
  pub total_is : t.total ≡ total
  pub of : IsTallyOfInputs files page t ⊎ IsTallyOfHashes files page t

-- ---- why there is none

-- what a line says of the page, and the line stands in one of the files
pub record IsSaidOf (files : List (List ℕ)) (page : PageName) (said : Said) : Type 0 where
  pub one : IsSaid said
  pub page_is : said_page said ≡ page
  pub there : Contains (all_lines files) (said_line said)

-- As many distinct lines of the page as a tally takes, in all or on one point, and one more, on that point: no tally has them all.
pub record IsCrowded (files : List (List ℕ)) (page : PageName) (total : ℕ) : Type 0 where
  pub saids : List Said
  pub more : Said
  pub once : IsStrictlySortedBy bytes_cmp (map said_line (saids ++ more ∷ []))
  pub each : AllByRecursion (IsSaidOf files page) (saids ++ more ∷ [])
  pub full : (most_in_all ≤ length saids) ⊎ (most_at_point ≤ count_by (λ said. said_point total said == said_point total more) saids)

-- a note with its input and one without stand among the lines
pub record AreMixed (lines : List (List ℕ)) : Type 0 where
  pub note : Noted
  pub is_note : IsNote note
  pub note_there : Contains lines (note_line note)
  pub hashed : Hashed
  pub is_hashed : IsHashed hashed
  pub hashed_there : Contains lines (hashed_line hashed)
