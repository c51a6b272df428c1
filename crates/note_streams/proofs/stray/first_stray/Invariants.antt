use Rattle.std.proofs.Common.{drop}
use Rattle.note_streams.proofs.Strays.{Passed}
use Rattle.note_streams.specs.LogLines.{files_view}
use Rattle.note_streams.proofs.stray.first_stray.Given as goal

-- the files before this one have no stray line
abbrev pub invariant-loop-at : goal.invariant-loop-at
invariant-loop-at l = Passed (files_view l.files) (files_view (drop l.at l.files)) l.at
