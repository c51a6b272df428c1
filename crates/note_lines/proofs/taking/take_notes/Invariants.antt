use Rattle.std.proofs.Common.{◌≤◌, ◌+◌, length}
use Rattle.note_lines.specs.Notes.{IsBookOf, Notes}
use Rattle.note_lines.proofs.Kept.{Stands}
use Rattle.note_lines.proofs.taking.take_notes.Given as goal

abbrev pub invariant-lines : goal.invariant-lines
invariant-lines l = record {
  few : l.lines + length l.rest ≤ length l.bytes;
  fewer : l.passed ≤ l.lines;
  stands : (all : Notes) → IsBookOf all l.fn.before → Stands l.passing all l.bytes l.book l.lines l.passed l.rest;
}

abbrev pub decreases-lines : goal.decreases-lines
decreases-lines l = length l.rest
