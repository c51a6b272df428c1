use Rattle.std.proofs.Common.{◌++◌}
use Rattle.book_core.specs.Reading.{lines_of}
use Rattle.page_tally.proofs.Parted.{run_then}
use Rattle.page_tally.proofs.run.take_rest.Goals as goal

pub returns-clause-run : goal.returns-clause-run
returns-clause-run g c =
    let one = c.take_parts-last.ensures.run in
    let two = c.take_lines.ensures.run in (
      one.0 ++ two.0,
      run_then c.args.first.now one.0 two.0 (lines_of c.args.lines.now.rest.now) (lines_of c.take_parts-last.new.lines.rest.now) (lines_of c.take_lines.new.lines.rest.now)
          c.args.lines.now.taken c.take_parts-last.new.lines.taken c.take_lines.new.lines.taken c.args.counter.now c.take_parts-last.new.counter c.take_lines.new.counter c.take_parts-last.result.now c.take_lines.result.now one.1 two.1,
    )
