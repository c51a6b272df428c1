-- What is recorded of runs of lines, one after another, and what is then written.
use Rattle.std.specs.Prelude.{◌≡◌, ℕ, List, [], ◌∷◌, map, Option, Some, None}
use Rattle.std.specs.Io.KnownBytes.{Appends}
use Rattle.flag_text.specs.Outlet.{AppendsPart}
use Rattle.note_streams.specs.Record.{Recorded, joined, nothing}
use Rattle.note_streams.specs.View.{recorded_view}
use Rattle.note_streams.specs.declared.recorded.Recorded as code
use Rattle.note_streams.specs.declared.runs.Written.{Written}

-- of one run and then of the others
abbrev pub all_joined : List Recorded → Recorded
all_joined [] = nothing
all_joined (run ∷ runs) = joined run (all_joined runs)

abbrev pub runs_view : List code.Recorded → Recorded
runs_view runs = all_joined (map recorded_view runs)

-- all is written and counted, or a write failed and a front of it is written
abbrev pub WritesRuns : Recorded → Option (List ℕ) → Option (List ℕ) → Option Written → Type 0
WritesRuns r old new (Some w) = (w.lines ≡ r.lines) × (w.refused ≡ r.refused) × Appends old new r.text
WritesRuns r old new None = AppendsPart old new r.text
