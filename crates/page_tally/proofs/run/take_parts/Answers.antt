use Rattle.std.proofs.Common.{◌++◌, arith}
use Rattle.book_core.specs.Reading.{lines_of}
use Rattle.page_tally.proofs.Parted.{run_then}
use Rattle.page_tally.proofs.run.take_parts.Goals as goal

pub loop-alloc-preserved : goal.loop-alloc-preserved
loop-alloc-preserved g c =
    let had = c.loop-alloc.invariant.run in
    let more = c.in-Some.ensures.run in
    let both = run_then c.args.first.now had.0 more.0 (lines_of c.args.lines.now.rest.now) (lines_of c.loop-alloc.lines.rest.now) (lines_of c.take_part.new.lines.rest.now)
    c.args.lines.now.taken c.loop-alloc.lines.taken c.take_part.new.lines.taken c.args.counter.now c.loop-alloc.counter c.take_part.new.counter c.loop-alloc.last.now c.in-Some.end.now had.1 more.1 in
    record { run = (had.0 ++ more.0, both); shorter = omega (arith, c.in-Some.ensures.shorter, c.loop-alloc.invariant.shorter) }

pub returns-then-lines-stop-clause-run : goal.returns-then-lines-stop-clause-run
returns-then-lines-stop-clause-run g c =
    let had = c.loop-alloc.invariant.run in
    let more = c.in-Some.ensures.run in
    let both = run_then c.args.first.now had.0 more.0 (lines_of c.args.lines.now.rest.now) (lines_of c.loop-alloc.lines.rest.now) (lines_of c.take_part.new.lines.rest.now)
    c.args.lines.now.taken c.loop-alloc.lines.taken c.take_part.new.lines.taken c.args.counter.now c.loop-alloc.counter c.take_part.new.counter c.loop-alloc.last.now c.in-Some.end.now had.1 more.1 in
    (had.0 ++ more.0, both)
