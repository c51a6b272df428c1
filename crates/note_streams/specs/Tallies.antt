-- What comes of log files for a page: its tally, where each line is blank or that of a note, all of these of one kind, or why there is none.
use Rattle.std.specs.Prelude.{ℕ, List, Result, Ok, Err}
use Rattle.book_core.specs.Page.{PageName}
use Rattle.note_tallies.specs.Tally.{PageTally}
use Rattle.note_streams.specs.LogLines.{all_lines}
use Rattle.note_streams.specs.LogRecorded.{AreMixed, IsCrowded, IsRecordTally}
use Rattle.note_streams.specs.Stray.{AreKept, IsFirstStray}
use Rattle.note_streams.specs.declared.log_fault.LogTallyFault.{LogTallyFault}
use Rattle.note_streams.specs.declared.log_fault.LogTallyFault.TheVariants.{WantOfMemory, Line, TooMany, Mixed}

-- each line is blank, or that of a note; and not some of notes with inputs, and some of notes without
pub record AreOfOneKind (lines : List (List ℕ)) : Type 0 where
  pub kept : AreKept lines
  pub alike : ¬ (AreMixed lines)

-- Refused in this order: Line, of the first stray line of the first file that has one; Mixed; TooMany.
abbrev pub TalliesFiles : List (List ℕ) → PageName → ℕ → Result PageTally LogTallyFault → Type 0
TalliesFiles files page total (Ok t) = IsRecordTally files page total t × AreOfOneKind (all_lines files)
TalliesFiles files page total (Err WantOfMemory) = Unit {0}
TalliesFiles files page total (Err (Line i n)) = IsFirstStray files i n
TalliesFiles files page total (Err Mixed) = AreKept (all_lines files) × AreMixed (all_lines files)
TalliesFiles files page total (Err TooMany) = AreOfOneKind (all_lines files) × IsCrowded files page total
