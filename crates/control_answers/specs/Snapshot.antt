-- What a service answers from.
use Rattle.std.specs.Prelude.{ℕ, List}
use Rattle.flag_defs.specs.Document.{Definitions}
use Rattle.flag_defs.specs.Flags.{flags_view}
use Rattle.control_answers.specs.declared.snapshot.Snapshot as program

-- a snapshot: its number, the text of its document, and its flags
pub record Snapshot : Type 0 where
  pub number : ℕ
  pub document : List ℕ
  pub flags : Definitions

abbrev pub snapshot_view : program.Snapshot → Snapshot
snapshot_view s = record { number = s.number; document = s.document.now; flags = flags_view s.flags.now }
