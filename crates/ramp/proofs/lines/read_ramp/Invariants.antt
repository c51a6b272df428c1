use Rattle.std.proofs.Common.{◌≡◌, ◌≤◌, ◌+◌, length, map}
use Rattle.std.specs.List.{slice_split}
use Rattle.book_core.specs.Reading.{is_feed}
use Rattle.plan_text.specs.Answer.{planned_view}
use Rattle.ramp.specs.Lines.{read_parts}
use Rattle.ramp.proofs.Parts.{behind}
use Rattle.ramp.proofs.lines.read_ramp.Given as goal

abbrev pub invariant-lines : goal.invariant-lines
invariant-lines l = record {
  read : read_parts 1 (slice_split is_feed l.bytes) ≡ behind (map planned_view l.answers.items) (read_parts l.step (slice_split is_feed l.rest));
  counted : l.step + length l.rest ≤ length l.bytes + 1;
}

abbrev pub decreases-lines : goal.decreases-lines
decreases-lines l = length l.rest
