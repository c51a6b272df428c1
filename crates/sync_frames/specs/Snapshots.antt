-- Snapshots as frames carry them: numbered flags, of which some may have floats.
use Rattle.std.specs.Prelude.{ℕ}
use Rattle.flag_defs.specs.Document.{Definitions}
use Rattle.flag_defs.specs.Flags.{flags_view}
use Rattle.flag_defs.specs.Floats.{Marks, floats_view}
use Rattle.snap_core.specs.declared.snapshot.Snapshot.{Snapshot}

-- flags with their place among the published ones, from 1, and which of them have floats
pub record Numbered : Type 0 where
  pub number : ℕ
  pub flags : Definitions
  pub floats : Marks

-- the flags, and which of them have floats
abbrev pub marked_flags : Numbered → Definitions × Marks
marked_flags s = (s.flags, s.floats)

-- ---- of the program

abbrev pub snapshot_view : Snapshot → Numbered
snapshot_view s = record { number = s.number; flags = flags_view s.flags; floats = floats_view s.flags }
