-- What is printed of a stream.
use Rattle.std.specs.Prelude.{◌≡◌, ◌⊎◌, ℕ, Bool, true, false, List, [], ◌∷◌, ◌++◌, codes, decimal, length, Option}
use Rattle.std.specs.Io.KnownBytes.{Appends, Consumes}
use Rattle.flag_text.specs.Outlet.{AppendsPart}
use Rattle.sync_frames.specs.Snapshots.{Numbered}
use Rattle.sync_server.specs.End as ends
use Rattle.sync_server.specs.Ends.{Ends, FirstOf}
use Rattle.sync_server.specs.declared.end.ReadEnd.{ReadEnd}
use Rattle.sync_server.specs.declared.end.ReadEnd.TheVariants.{Ended, Limit}

-- the line of a snapshot: its number, and how many flags it has
unfoldable pub snapshot_line : Numbered → List ℕ
snapshot_line s = codes "snapshot " ++ (decimal s.number ++ (codes " flags " ++ (decimal (length s.flags) ++ codes "\n")))

abbrev pub snapshot_lines : List Numbered → List ℕ
snapshot_lines [] = []
snapshot_lines (s ∷ ss) = snapshot_line s ++ snapshot_lines ss

-- the words of the last line: how the stream ended
abbrev pub start_of : ReadEnd → List ℕ
start_of Ended = []
start_of end = codes "stopped "

abbrev pub word_of : ReadEnd → List ℕ
word_of Ended = codes "ended"
word_of end = ends.name_of end

unfoldable pub last_line : ReadEnd → List ℕ
last_line end = start_of end ++ (word_of end ++ codes "\n")

abbrev pub status_of : ReadEnd → ℕ
status_of Ended = 0
status_of Limit = 0
status_of end = 1

-- The lines of all snapshots and the last line, of an end that may be told, are there; or the output failed, and a front of these, or of
-- the lines of the first snapshots, is there.
abbrev pub PrintsBy : (ReadEnd → Type 0) → Type 0 → List Numbered → Option (List ℕ) → Option (List ℕ) → Bool → ℕ → Type 0
PrintsBy MayEnd AreFirst ss old new false status = (end : ReadEnd) × MayEnd end × Appends old new (snapshot_lines ss ++ last_line end) × (status ≡ status_of end)
PrintsBy MayEnd AreFirst ss old new true status =
    (status ≡ 1) × ((AreFirst × AppendsPart old new (snapshot_lines ss)) ⊎ ((end : ReadEnd) × MayEnd end × AppendsPart old new (snapshot_lines ss ++ last_line end)))

-- the same of the snapshots of a stream, and of how it ended
abbrev pub Prints : List ℕ → List Numbered → Option (List ℕ) → Bool → Option (List ℕ) → Option (List ℕ) → Bool → ℕ → Type 0
Prints stream ss left is_inlet_broken = PrintsBy (Ends stream ss left is_inlet_broken) (FirstOf stream ss) ss

-- Some stream was taken from the input, and this was printed of it.
abbrev pub Printed : Option (List ℕ) → Option (List ℕ) → Bool → Option (List ℕ) → Option (List ℕ) → Bool → ℕ → Type 0
Printed before left is_inlet_broken old new is_broken status = (stream : List ℕ) × (ss : List Numbered) × Consumes before left stream × Prints stream ss left is_inlet_broken old new is_broken status

-- The same, of an end that also the reads allow.
abbrev pub PrintedWithin : (ReadEnd → Type 0) → Option (List ℕ) → Option (List ℕ) → Bool → Option (List ℕ) → Option (List ℕ) → Bool → ℕ → Type 0
PrintedWithin AreReads before left is_inlet_broken old new is_broken status =
    (stream : List ℕ) × (ss : List Numbered) × Consumes before left stream
    × PrintsBy (λ end. Ends stream ss left is_inlet_broken end × AreReads end) (FirstOf stream ss) ss old new is_broken status

-- What is printed of an input of which nothing is known but that.
abbrev pub Follows : Option (List ℕ) → Option (List ℕ) → Bool → ℕ → Type 0
Follows old new is_broken status = (before : Option (List ℕ)) × (left : Option (List ℕ)) × (is_inlet_broken : Bool) × Printed before left is_inlet_broken old new is_broken status
