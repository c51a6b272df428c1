-- The lines of some bytes, tallied one after another.
use Rattle.std.proofs.Common.{◌≤◌, ℕ, List, [], ◌++◌, length, append-nil, Result, Ok, Err, subst}
use Rattle.byte_streams.specs.Lines.{HasNoFeed, parts_of}
use Rattle.note_tallies.specs.Lines.{Tallied}
use Rattle.note_streams.proofs.StreamCounting.{ends_rest}
use Rattle.note_streams.specs.Batch.{Goes}
use Rattle.note_streams.specs.Tallied.{Tallies, behind}
use Rattle.note_streams.specs.Record.{most_line}
use Rattle.note_tallies.specs.Filter.{Filtered}
use Rattle.note_tallies.specs.declared.filter_fault.FilterFault.{FilterFault}

module _ (start : Tallied) (notes rest : List ℕ) (f : Filtered) (goes : Goes (behind start 0) notes f rest) where
  whole : (r : Result Tallied FilterFault) → Tallies f.tally f.lines (parts_of (rest ++ [])) r → Tallies start 0 (parts_of notes) r
  whole r is = subst (λ (t : List ℕ). Tallies start 0 (parts_of t) r) (append-nil notes) (goes [] r is)

  -- what is refused further on is refused of all
  pub stopped : (fault : FilterFault) → ((more : List ℕ) → Tallies f.tally f.lines (parts_of (rest ++ more)) (Err fault)) → Tallies start 0 (parts_of notes) (Err fault)
  stopped fault stops = whole (Err fault) (stops [])

  -- behind the last line
  pub ended : HasNoFeed rest → length rest ≤ most_line → Tallies start 0 (parts_of notes) (Ok f.tally)
  ended none short = whole (Ok f.tally) (ends_rest f rest none short)
