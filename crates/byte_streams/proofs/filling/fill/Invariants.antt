use Rattle.std.proofs.Common.{◌≡◌, ◌≤◌, ◌+◌, ◌-◌, false, length}
use Rattle.byte_streams.specs.Fill.{Grows}
use Rattle.byte_streams.proofs.filling.fill.Given as goal

abbrev pub invariant-reads : goal.invariant-reads
invariant-reads g l = record {
  grows : Grows (g.I.Inlet.bytes l.initial.input) (g.I.Inlet.bytes l.input) l.fn.batch.items l.batch.items;
  unbroken : g.I.Inlet.is_broken l.input ≡ false;
  room : length l.piece ≡ length l.fn.piece;
  few : length l.fn.batch.items ≤ l.size → length l.batch.items ≤ l.size + length l.fn.piece;
}

abbrev pub decreases-reads : goal.decreases-reads
decreases-reads g l = l.size - length l.batch.items
