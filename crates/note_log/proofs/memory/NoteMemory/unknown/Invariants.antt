use Rattle.std.proofs.Common.{◌≡◌}
use Rattle.note_log.specs.Shown.{open_in}
use Rattle.note_log.proofs.Left.{LeavesOf}
use Rattle.note_log.proofs.memory.NoteMemory.unknown.Given as goal

-- some are left of the lines so far
abbrev pub invariant-loop-line : goal.invariant-loop-line
invariant-loop-line l =
    (∥ LeavesOf l.fn.lines.items l.line-iterator.rest.items l.left.items (open_in l.initial.self.files) ∥₁)
    × (l.self.files ≡ l.initial.self.files) × (l.self.table.cap ≡ l.initial.self.table.cap)
