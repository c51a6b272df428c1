use Rattle.std.proofs.Common.{◌≡◌, ◌≤◌, ◌+◌, ◌-◌, false, length}
use Rattle.note_tallies.specs.Lines.{untallied}
use Rattle.note_streams.specs.Record.{most_line}
use Rattle.note_streams.proofs.StreamCounting.{Known}
use Rattle.note_streams.proofs.tallying.tally_stream.Given as goal

abbrev pub invariant-batches : goal.invariant-batches
invariant-batches g l = record {
  unbroken : g.I.Inlet.is_broken l.input ≡ false;
  room : length l.piece.items ≡ 1048576;
  short : length l.held.items ≤ most_line;
  few : l.filter.lines + length l.held.items ≤ l.taken;
  goes : Known (untallied l.fn.page l.fn.total) l.held.items l.taken l.filter (g.I.Inlet.bytes l.initial.input) (g.I.Inlet.bytes l.input);
}

abbrev pub decreases-batches : goal.decreases-batches
decreases-batches g l = 1152921504606846977 - l.taken
