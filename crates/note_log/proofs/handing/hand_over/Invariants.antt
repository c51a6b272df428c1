use Rattle.std.proofs.Common.{◌≡◌, ℕ, None, length}
use Rattle.note_log.specs.Handing.{Moves}
use Rattle.log_file.specs.Handed.{handed_in}
use Rattle.note_log.specs.Sound.{IsCounted}
use Rattle.note_log.proofs.handing.hand_over.Given as goal

abbrev pub invariant-loop-journal : goal.invariant-loop-journal
invariant-loop-journal g l =
    Moves (g.F.LogFile.bytes l.initial.journal.journal.file) (g.F.LogFile.bytes l.journal.journal.file) (handed_in l.initial.journal.journal.handed.writes.items) (handed_in l.journal.journal.handed.writes.items) l.initial.waiting.items l.waiting.items
    × ((before : ℕ) → IsCounted before (handed_in l.initial.journal.journal.handed.writes.items) l.initial.written → IsCounted before (handed_in l.journal.journal.handed.writes.items) l.written)
    × (l.journal.journal.lost ≡ l.initial.journal.journal.lost)
    × (g.F.LogFile.looks l.journal.journal.file ≡ g.F.LogFile.looks l.initial.journal.journal.file)
    × (l.initial.journal.journal.lost ≡ None → g.F.LogFile.faults l.journal.journal.file ≡ g.F.LogFile.faults l.initial.journal.journal.file)

abbrev pub decreases-loop-journal : goal.decreases-loop-journal
decreases-loop-journal g l = length l.waiting.items
