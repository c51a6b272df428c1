use Rattle.std.proofs.Common.{◌≤◌, ◌+◌, length}
use Rattle.note_streams.specs.Batch.{Goes, KeepsRest}
use Rattle.note_streams.proofs.tallying.tally_batch.Given as goal

abbrev pub invariant-lines : goal.invariant-lines
invariant-lines l = record {
  few : l.filter.lines + length l.rest ≤ l.fn.filter.lines + length l.bytes;
  goes : Goes l.fn.filter l.bytes l.filter l.rest;
  keeps : KeepsRest l.bytes l.rest;
}

abbrev pub decreases-lines : goal.decreases-lines
decreases-lines l = length l.rest
