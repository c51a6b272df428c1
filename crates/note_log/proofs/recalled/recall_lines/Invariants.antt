use Rattle.std.proofs.Common.{◌≡◌, length}
use Rattle.note_log.specs.Recalled.{RecallsFirst}
use Rattle.note_log.proofs.recalled.recall_lines.Given as goal

-- the lines so far are remembered, as long as there is room for them
abbrev pub invariant-lines : goal.invariant-lines
invariant-lines l = RecallsFirst l.lines l.rest l.number l.initial.table.cap l.initial.table.entries l.table.entries × (l.table.cap ≡ l.initial.table.cap)

abbrev pub decreases-lines : goal.decreases-lines
decreases-lines l = length l.rest
