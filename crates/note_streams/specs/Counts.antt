-- How many notes log files hold of each page.
use Rattle.std.specs.Prelude.{◌≡◌, ◌+◌, ◌<◌, ◌^◌, ◌⊎◌, ℕ, cond, unwrap_or, List, [], ◌∷◌, length, count_by, Option, Some, None}
use Rattle.std.specs.BTreeMap.{is_at}
use Rattle.std.specs.Map.{lookup}
use Rattle.book_core.specs.Page.{PageName, page_cmp, page_eq}
use Rattle.note_tallies.specs.Lines.{IsSaid, Said, said_line, said_page}
use Rattle.note_tallies.specs.Refusals.{SaysNothing}
use Rattle.note_streams.specs.LogRecorded.{AreHeldAs}

-- how many are counted of a page, none where it has no entry
abbrev pub counted_on : List (PageName × ℕ) → PageName → ℕ
counted_on counts page = unwrap_or (lookup (is_at (page_cmp page)) counts) 0

-- a note of the page, with its input or with the hash of it
pub record IsNoteOf (page : PageName) (said : Said) : Type 0 where
  pub one : IsSaid said
  pub page_is : said_page said ≡ page

-- The number of the notes of a page whose lines stand in the files, in whichever file and however often: each is counted once.
pub record IsCountOf (files : List (List ℕ)) (page : PageName) (n : ℕ) : Type 0 where
  pub notes : List Said
  pub recorded : AreHeldAs (IsNoteOf page) said_line files notes
  pub count : n ≡ length notes

-- it is, of each page
abbrev pub AreCounts : List (List ℕ) → List (PageName × ℕ) → Type 0
AreCounts files counts = (page : PageName) → IsCountOf files page (counted_on counts page)

-- ---- for private clauses

-- the page of what the line says, where it says something
abbrev pub SaysPage : List ℕ → Option PageName → Type 0
SaysPage line None = SaysNothing line
SaysPage line (Some page) = (said : Said) × IsSaid said × (line ≡ said_line said) × (said_page said ≡ page)

-- there is room for one more in each number
abbrev pub HasRoom : List (PageName × ℕ) → Type 0
HasRoom counts = (page : PageName) → counted_on counts page + 1 < 2 ^ 64

-- one more of this page, and of others as many as before
abbrev pub HasOneMore : List (PageName × ℕ) → PageName → List (PageName × ℕ) → Type 0
HasOneMore old page new = (q : PageName) → counted_on new q ≡ counted_on old q + cond (page_eq page q) 1 0

-- a line that says nothing changes nothing
abbrev pub CountsLine : List (PageName × ℕ) → List ℕ → List (PageName × ℕ) → Type 0
CountsLine old line new = (SaysNothing line × (new ≡ old)) ⊎ ((said : Said) × IsSaid said × (line ≡ said_line said) × HasOneMore old (said_page said) new)

-- the lines that say something say this, in turn
abbrev pub SayAll : List (List ℕ) → List Said → Type 0
SayAll [] saids = saids ≡ []
SayAll (line ∷ lines) saids = (SaysNothing line × SayAll lines saids) ⊎ ((said : Said) × (rest : List Said) × (saids ≡ said ∷ rest) × IsSaid said × (line ≡ said_line said) × SayAll lines rest)

-- as many are counted of each page as lines say something of it
pub record CountsLines (lines : List (List ℕ)) (counts : List (PageName × ℕ)) : Type 0 where
  pub saids : List Said
  pub say : SayAll lines saids
  pub each : (page : PageName) → counted_on counts page ≡ count_by (λ said. page_eq (said_page said) page) saids
