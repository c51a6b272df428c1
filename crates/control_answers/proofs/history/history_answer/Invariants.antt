use Rattle.std.proofs.Common.{◌≡◌, ◌++◌, filter, length}
use Rattle.byte_streams.specs.Lines.{lines_view}
use Rattle.note_streams.specs.LogLines.{lines_in}
use Rattle.control_answers.specs.History.{is_row}
use Rattle.control_answers.proofs.history.history_answer.Given as goal

-- the rows so far, and those of the rest, are those of all
abbrev pub invariant-cuts : goal.invariant-cuts
invariant-cuts l = lines_view l.rows.items ++ filter is_row (lines_in l.rest) ≡ filter is_row (lines_in l.history)

abbrev pub decreases-cuts : goal.decreases-cuts
decreases-cuts l = length l.rest
