use Rattle.std.proofs.Common.{◌++◌, [], ◌∷◌, arith}
use Rattle.book_core.specs.Reading.{lines_of}
use Rattle.page_tally.proofs.Running.{run_more}
use Rattle.page_tally.proofs.run.take_lines.Goals as goal

pub loop-lines-preserved : goal.loop-lines-preserved
loop-lines-preserved c =
    let run = c.loop-lines.invariant.run in
    let more = run_more c.args.first.now run.0 (lines_of c.args.lines.now.rest.now) (lines_of c.loop-lines.lines.rest.now) (lines_of c.next_input.new.lines.rest.now)
    c.args.lines.now.taken c.loop-lines.lines.taken c.next_input.new.lines.taken c.args.counter.now c.loop-lines.counter c.count.new.self c.loop-lines.last.now c.in-Some.input.now
    run.1 c.in-Some.ensures.line c.in-Some.ensures.above c.in-Some.ensures.short c.in-Some.ensures.number c.in-Some.ensures.room c.count.ensures in
    record {
      run = (run.0 ++ c.in-Some.input.now ∷ [], more);
      shorter = omega (arith, c.in-Some.ensures.shorter, c.loop-lines.invariant.shorter);
    }
