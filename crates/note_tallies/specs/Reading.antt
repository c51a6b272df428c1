-- Which tally the bytes of a file are, and why they are none.
use Rattle.std.specs.Prelude.{◌≡◌, ◌≢◌, ℕ, ◌+◌, ◌<◌, ◌≤◌, ◌^◌, List, [], ◌∷◌, ◌++◌, length, get_or, count_by, nat_lt, Result, Ok, Err}
use Rattle.book_core.specs.Printing.{Reads, line_text}
use Rattle.note_tallies.specs.Point.{point_line}
use Rattle.note_tallies.specs.declared.point.PointCount.{PointCount}
use Rattle.note_tallies.specs.Tally.{PageTally, IsPageTally, IsTallyTotal, AreEnds}
use Rattle.note_tallies.specs.File.{Head, header_shape, head_of, head_shape, file_text, tally_text}
use Rattle.note_tallies.specs.declared.file_fault.TallyFileFault.{TallyFileFault}
use Rattle.note_tallies.specs.declared.file_fault.TallyFileFault.TheVariants.{WantOfMemory, Header, Page, Line, Order, Inputs}

-- the total is one, and the lines are those of as many inputs of the page
pub record IsAllowed (h : Head) : Type 0 where
  pub total : IsTallyTotal h.total
  pub ends : AreEnds h.page h.inputs h.first h.last

-- its numbers are such as a line has
pub record IsBounded (h : Head) : Type 0 where
  pub site : h.page.site < 2 ^ 32
  pub inputs : h.inputs < 2 ^ 53

-- what a second line may say
pub record IsHead (h : Head) : Type 0 where
  pub allowed : IsAllowed h
  pub bounded : IsBounded h
  pub reads : Reads (head_shape h)

-- a point below the total, and some inputs
pub record IsPointBelow (total : ℕ) (e : PointCount) : Type 0 where
  pub point : e.point < total
  pub some : 0 < e.inputs
  pub few : e.inputs < 2 ^ 32

-- the bytes begin with the line of no such point
abbrev pub BeginNoPoint : ℕ → List ℕ → Type 0
BeginNoPoint total bytes = (e : PointCount) (more : List ℕ) → IsPointBelow total e → bytes ≢ point_line e ++ more

-- they begin with that of a point, where an equal or a higher one stands before it
abbrev pub BeginLow : ℕ → List ℕ → List ℕ → Type 0
BeginLow total counts bytes = (e : PointCount) × (more : List ℕ) × (p : ℕ) × IsPointBelow total e × (bytes ≡ point_line e ++ more) × (e.point ≤ p) × (0 < get_or counts p 0)

-- numbers of 32 bits
abbrev pub AreSmall : List ℕ → Type 0
AreSmall counts = (p : ℕ) → get_or counts p 0 < 2 ^ 32

-- behind the lines of the points that are counted here, n lines with them, some bytes are left
pub record IsUpTo (bytes : List ℕ) (h : Head) (counts rest : List ℕ) (n : ℕ) : Type 0 where
  pub head : IsHead h
  pub text : bytes ≡ file_text h counts ++ rest
  pub whole : length counts ≤ h.total
  pub small : AreSmall counts
  pub number : n ≡ 3 + count_by (nat_lt 0) counts
  pub left : rest ≢ []

-- the inputs are those of no tally, as they don't add up or are too many
pub record IsNoTally (bytes : List ℕ) (h : Head) (counts : List ℕ) : Type 0 where
  pub head : IsHead h
  pub text : bytes ≡ file_text h counts
  pub whole : length counts ≡ h.total
  pub small : AreSmall counts
  pub none : IsPageTally (record { page = h.page; total = h.total; first = h.first; last = h.last; inputs = h.inputs; counts = counts }) → ⊥

-- the bytes are the file of a tally
pub record IsFile (bytes : List ℕ) (t : PageTally) : Type 0 where
  pub head : IsHead (head_of t)
  pub lawful : IsPageTally t
  pub text : bytes ≡ tally_text t

-- The tally whose file the bytes are, or what is wrong with them, looked at in the order of the numbers.
abbrev pub ReadsTally : List ℕ → Result PageTally TallyFileFault → Type 0
ReadsTally bytes (Ok t) = IsFile bytes t
ReadsTally bytes (Err WantOfMemory) = Unit {0}
ReadsTally bytes (Err Header) = (rest : List ℕ) → bytes ≢ line_text header_shape ++ rest
ReadsTally bytes (Err Page) = (rest : List ℕ) × (bytes ≡ line_text header_shape ++ rest) × ((h : Head) (more : List ℕ) → IsHead h → rest ≢ line_text (head_shape h) ++ more)
ReadsTally bytes (Err (Line n)) = (h : Head) × (counts : List ℕ) × (rest : List ℕ) × IsUpTo bytes h counts rest n × BeginNoPoint h.total rest
ReadsTally bytes (Err (Order n)) = (h : Head) × (counts : List ℕ) × (rest : List ℕ) × IsUpTo bytes h counts rest n × BeginLow h.total counts rest
ReadsTally bytes (Err Inputs) = (h : Head) × (counts : List ℕ) × IsNoTally bytes h counts

-- whoever reads the bytes reads this tally
abbrev pub ReadsAs : List ℕ → PageTally → Type 0
ReadsAs bytes t = (r : Result PageTally TallyFileFault) → ReadsTally bytes r → r ≢ Err WantOfMemory → r ≡ Ok t
