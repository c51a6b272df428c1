use Rattle.std.proofs.Common.{arith}
use Rattle.note_tallies.proofs.Counting.{none_below}
use Rattle.note_tallies.proofs.counts.next_point.Goals as goal

pub returns-else-is_below : goal.returns-else-is_below
returns-else-is_below c =
    none_below c.args.bytes.now c.in_ok-count.rest.now c.args.total c.in_ok-count.count c.is_below.result (omega (arith, c.ranges.total.fits)) c.in_ok-count.ensures.numbers c.in_ok-count.ensures.line c.is_below.ensures c.if-is_below.false
