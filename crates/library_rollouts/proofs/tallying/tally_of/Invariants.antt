use Rattle.std.proofs.Common.{◌≤◌, ◌+◌, length}
use Rattle.note_tallies.specs.Lines.{untallied}
use Rattle.note_streams.specs.Batch.{Goes}
use Rattle.note_streams.specs.Tallied.{behind}
use Rattle.library_rollouts.proofs.tallying.tally_of.Given as goal

abbrev pub invariant-lines : goal.invariant-lines
invariant-lines l = record {
  few : l.filter.lines + length l.rest ≤ length l.notes;
  goes : Goes (behind (untallied l.fn.page l.fn.total) 0) l.notes l.filter l.rest;
}

abbrev pub decreases-lines : goal.decreases-lines
decreases-lines l = length l.rest
