use Rattle.std.proofs.Common.{take}
use Rattle.note_log.specs.Batch.{ArePrinted}
use Rattle.note_log.proofs.batch.lines_of.Given as goal

abbrev pub invariant-loop-note : goal.invariant-loop-note
invariant-loop-note l = ArePrinted l.form (take l.note-index l.notes) l.lines.items
