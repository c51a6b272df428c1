use Rattle.std.proofs.Common.{◌≤◌, ◌+◌, length}
use Rattle.note_streams.proofs.Strays.{Looked}
use Rattle.note_streams.proofs.stray.stray_in.Given as goal

abbrev pub invariant-cuts : goal.invariant-cuts
invariant-cuts l = record {
  few : l.lines + length l.rest ≤ length l.bytes;
  looked : Looked l.bytes l.rest l.lines;
}

abbrev pub decreases-cuts : goal.decreases-cuts
decreases-cuts l = length l.rest
