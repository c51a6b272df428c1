use Rattle.std.proofs.Common.{length}
use Rattle.note_tallies.specs.Counts.{AreCounted}
use Rattle.note_tallies.proofs.Counting.{Reach}
use Rattle.note_tallies.proofs.counts.read_counts.Given as goal

abbrev pub invariant-lines : goal.invariant-lines
invariant-lines l = record {
  counted : AreCounted l.bytes l.total l.counts.items l.rest l.line;
  reach : Reach l.counts.items;
}

abbrev pub decreases-lines : goal.decreases-lines
decreases-lines l = length l.rest
