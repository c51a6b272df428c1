-- What is tallied of lines that rise, each once, in private contracts alone.
use Rattle.std.specs.Prelude.{◌≡◌, ℕ, List, ◌∷◌, ◌++◌, Bool, false, true, not, ◌&&◌, Result, Ok, Err}
use Rattle.std.specs.List.{Contains}
use Rattle.std.specs.List.Sorted.{IsStrictlySortedBy}
use Rattle.book_core.specs.Page.{PageName, bytes_cmp, page_eq}
use Rattle.note_tallies.specs.Lines.{IsSaid, Said, Tallied, finished, has_room, said_line, said_page, said_point, untallied}
use Rattle.note_lines.specs.Hashed.{has_hash}
use Rattle.note_tallies.specs.Tally.{PageTally}
use Rattle.note_tallies.specs.Blank.{is_blank}
use Rattle.note_tallies.specs.Filter.{TakesAll}
use Rattle.note_tallies.specs.declared.filter_fault.FilterFault.{FilterFault}
use Rattle.note_tallies.specs.declared.filter_fault.FilterFault.TheVariants.{WantOfMemory, Line, Order, TooMany, Mixed}
use Rattle.note_streams.specs.LogLines.{all_lines}
use Rattle.note_streams.specs.LogRecorded.{AreMixed}
use Rattle.note_streams.specs.Stray.{AreKept, IsFirstStray, IsStray}
use Rattle.note_streams.specs.Tallies.{AreOfOneKind}
use Rattle.note_streams.specs.declared.log_fault.LogTallyFault.{LogTallyFault}
use Rattle.note_streams.specs.declared.log_fault.LogTallyFault.TheVariants as told

-- these are the lines of the files, each once, and they rise
pub record AreDistinct (files : List (List ℕ)) (lines : List (List ℕ)) : Type 0 where
  pub rising : IsStrictlySortedBy bytes_cmp lines
  pub each : (line : List ℕ) → Contains lines line → Contains (all_lines files) line
  pub all : (line : List ℕ) → Contains (all_lines files) line → Contains lines line

-- behind some of the lines there is no room for the next
pub record HasNoRoom (page : PageName) (total : ℕ) (lines : List (List ℕ)) : Type 0 where
  pub before : List (List ℕ)
  pub said : Said
  pub after : List (List ℕ)
  pub split : lines ≡ before ++ said_line said ∷ after
  pub is_said : IsSaid said
  pub tally : Tallied
  pub takes : TakesAll (untallied page total) before tally
  pub same : page_eq (said_page said) tally.page ≡ true
  pub full : has_room tally (said_point tally.total said) ≡ false

-- one of the lines is stray
abbrev pub HasStrayLine : List (List ℕ) → Type 0
HasStrayLine lines = (line : List ℕ) × Contains lines line × IsStray line

-- all are taken, or one is stray, or some have inputs and some hashes, or there is no room for one; none is out of order
abbrev pub TalliesLines : PageName → ℕ → List (List ℕ) → Result PageTally FilterFault → Type 0
TalliesLines page total lines (Ok t) = (last : Tallied) × TakesAll (untallied page total) lines last × (t ≡ finished last)
TalliesLines page total lines (Err WantOfMemory) = Unit {0}
TalliesLines page total lines (Err (Line n)) = HasStrayLine lines
TalliesLines page total lines (Err (Order n)) = ⊥
TalliesLines page total lines (Err TooMany) = HasNoRoom page total lines
TalliesLines page total lines (Err (Mixed n)) = AreMixed lines

-- ---- why there is none

-- what stands in the lines that are refused for this
abbrev pub IsRefusedFor : List (List ℕ) → FilterFault → Type 0
IsRefusedFor lines WantOfMemory = Unit {0}
IsRefusedFor lines (Line n) = HasStrayLine lines
IsRefusedFor lines (Order n) = ⊥
IsRefusedFor lines TooMany = Unit {0}
IsRefusedFor lines (Mixed n) = AreMixed lines

-- what is told of the files whose lines are refused for this
abbrev pub IsWhy : List (List ℕ) → FilterFault → LogTallyFault → Type 0
IsWhy files refused told.WantOfMemory = refused ≡ WantOfMemory
IsWhy files refused (told.Line i n) = IsFirstStray files i n
IsWhy files refused told.Mixed = AreKept (all_lines files) × AreMixed (all_lines files)
IsWhy files refused told.TooMany = (refused ≡ TooMany) × AreOfOneKind (all_lines files)

-- a line that is not stray is that of a note with an input, or of one without
abbrev pub is_input_line : List ℕ → Bool
is_input_line line = not (is_blank line) && not (has_hash line)

abbrev pub is_hash_line : List ℕ → Bool
is_hash_line line = not (is_blank line) && has_hash line
