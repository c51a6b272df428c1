use Rattle.std.proofs.Common.{◌++◌}
use Rattle.book_core.specs.Reading.{lines_of}
use Rattle.page_tally.proofs.Parted.{run_then}
use Rattle.page_tally.proofs.run.read_run.Goals as goal

pub returns-clause-run : goal.returns-clause-run
returns-clause-run g c =
    let one = c.take_lines-last.ensures.run in
    let two = c.take_rest.ensures.run in (
      one.0 ++ two.0,
      run_then c.args.first.now one.0 two.0 (lines_of c.args.lines.now.rest.now) (lines_of c.take_lines-last.new.lines.rest.now) (lines_of c.take_rest.new.lines.rest.now)
          c.args.lines.now.taken c.take_lines-last.new.lines.taken c.take_rest.new.lines.taken c.args.counter.now c.take_lines-last.new.counter c.take_rest.new.counter c.take_lines-last.result.now c.take_rest.result.now one.1 two.1,
    )
