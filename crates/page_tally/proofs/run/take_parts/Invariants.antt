use Rattle.std.proofs.Common.{◌≤◌, length}
use Rattle.book_core.specs.Book.{Inputs}
use Rattle.book_core.specs.Reading.{lines_of}
use Rattle.page_tally.specs.Runs.{TakesRun}
use Rattle.page_tally.proofs.run.take_parts.Given as goal

abbrev pub invariant-loop-alloc : goal.invariant-loop-alloc
invariant-loop-alloc g l = record {
  run : (inputs : Inputs) × TakesRun l.fn.first inputs (lines_of l.fn.lines.rest.now) l.fn.lines.taken l.fn.counter l.last (lines_of l.lines.rest.now) l.lines.taken l.counter;
  shorter : length l.lines.rest.now ≤ length l.fn.lines.rest.now;
}

abbrev pub decreases-loop-alloc : goal.decreases-loop-alloc
decreases-loop-alloc g l = length l.lines.rest.now
