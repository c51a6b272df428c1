-- What is recorded of the bytes of a stream, and what is then written.
use Rattle.std.specs.Prelude.{◌≡◌, ◌<◌, ℕ, nat_lt, Bool, true, false, List, [], ◌∷◌, length, Option, if◌then◌else◌, Result, Ok, Err}
use Rattle.std.specs.Io.KnownBytes.{Appends}
use Rattle.flag_text.specs.Outlet.{AppendsPart}
use Rattle.byte_streams.specs.Lines.{parts_of}
use Rattle.note_streams.specs.View.{outcomes_view}
use Rattle.note_streams.specs.Record.{Recorded, Scene, joined, most_line, nothing, of_line, refused}
use Rattle.note_streams.specs.Rest.{is_empty, is_torn}
use Rattle.note_streams.specs.declared.recording.Counted.{Counted}
use Rattle.note_streams.specs.declared.stop.RecordStop.{RecordStop}
use Rattle.note_streams.specs.declared.stop.RecordStop.TheVariants.{WantOfMemory, Line, Unreadable, TooLong, Broken}

-- what stands behind the last line feed is passed over, unless it is longer than any line
abbrev pub of_rest : List ℕ → Recorded
of_rest rest = if nat_lt most_line (length rest) then refused else nothing

-- the fold over the lines of a stream, of whose parts the last is none
abbrev pub of_parts : Scene → List (List ℕ) → Recorded
of_parts s [] = nothing
of_parts s (rest ∷ []) = of_rest rest
of_parts s (line ∷ next ∷ parts) = joined (of_line s line) (of_parts s (next ∷ parts))

unfoldable pub recorded_of : Scene → List ℕ → Recorded
recorded_of s bytes = of_parts s (parts_of bytes)

-- the most bytes that a stream has, 2^60
abbrev pub most_bytes : ℕ
most_bytes = 1152921504606846976

-- What is written of a stream of so many bytes, by what is recorded of it: all; all up to the line of this number, which is no
-- context; or a front, where a read failed, the stream is too long, a write failed or memory ran out.
abbrev pub RecordsStream : Recorded → ℕ → Bool → Option (List ℕ) → Option (List ℕ) → Result Counted RecordStop → Type 0
RecordsStream r size is_cut old new (Ok c) = (r.refused ≡ false) × Appends old new r.text
RecordsStream r size is_cut old new (Err (Line n)) = (r.refused ≡ true) × (r.lines ≡ n) × Appends old new r.text
RecordsStream r size is_cut old new (Err Unreadable) = (is_cut ≡ true) × AppendsPart old new r.text
RecordsStream r size is_cut old new (Err TooLong) = (most_bytes < size) × AppendsPart old new r.text
RecordsStream r size is_cut old new (Err Broken) = AppendsPart old new r.text
RecordsStream r size is_cut old new (Err WantOfMemory) = AppendsPart old new r.text

-- what a person is told beside it: what came of the contexts, that the last line of these bytes has no end, and that there are none
abbrev pub TellsOf : Recorded → List ℕ → Counted → Type 0
TellsOf r bytes c = (outcomes_view c.outcomes ≡ r.outcomes) × (c.torn ≡ is_torn bytes) × (c.empty ≡ is_empty bytes)
