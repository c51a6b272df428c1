-- What is answered from.
use Rattle.std.specs.Prelude.{◌≡◌, ℕ, List, Some, Ok, string_bytes}
use mathlib.Core.List.{IsPrefix}
use Rattle.std.specs.Arc.{arc_value}
use Rattle.flag_defs.specs.Floats.{MeansWithFloats}
use Rattle.snap_share.specs.Known.{Seat, WasRead}
use Rattle.sync_frames.specs.Snapshots.{Numbered, snapshot_view}
use Rattle.control_answers.specs.Snapshot.{Snapshot}
use Rattle.control_desk.specs.declared.held.HeldSnapshot as program

-- a snapshot that was read, with the text of its document
abbrev pub with_document : Numbered → List ℕ → Snapshot
with_document s document = record { number = s.number; document = document; flags = s.flags }

-- The seat was read, once, and this was the last of what it then knew. It may have learned more since.
abbrev pub ReadsLast : Seat → Numbered → Seat → Type 0
ReadsLast old s new = (mid : Seat) × WasRead old (Some s) mid × IsPrefix mid.known new.known × (new.reads ≡ mid.reads)

-- a document that means the flags of the snapshot
abbrev pub IsOfSnapshot : Numbered → List ℕ → Type 0
IsOfSnapshot s document = MeansWithFloats document (Ok s.flags)

-- ---- of the program

abbrev pub numbered_of : program.HeldSnapshot → Numbered
numbered_of h = snapshot_view (arc_value h.shared)

abbrev pub held_view : program.HeldSnapshot → Snapshot
held_view h = with_document (numbered_of h) (string_bytes h.document)
