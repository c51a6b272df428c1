use Rattle.std.proofs.Common.{◌+◌, Some, ap, ◌∙◌}
use Rattle.book_core.specs.Reading.{lines_of}
use Rattle.page_tally.specs.Folding.{tally_from}
use Rattle.page_tally.specs.Inputs.{input_view}
use Rattle.page_tally.proofs.Running.{run_followed, length-taken}
use Rattle.page_tally.proofs.read.follow.Goals as goal

pub returns-in-Plain-clause-read : goal.returns-in-Plain-clause-read
returns-in-Plain-clause-read g c = λ wanted page total.
    let run = c.read_run.ensures.run in
    ap (λ i. tally_from wanted total (Some page) (c.args.lines.now.taken + 1) (Some (input_view i)) c.args.counter.now (lines_of c.args.lines.now.rest.now)) c.in-Plain.is
    ∙ run_followed c.in-Plain.first.now run.0 (lines_of c.args.lines.now.rest.now) (lines_of c.read_run.new.lines.rest.now) c.args.lines.now.taken c.read_run.new.lines.taken c.args.counter.now c.read_run.new.counter c.read_run.result.now wanted page total run.1

pub returns-in-Plain-clause-whole : goal.returns-in-Plain-clause-whole
returns-in-Plain-clause-whole g c =
    let run = c.read_run.ensures.run in
    length-taken c.in-Plain.first.now run.0 (lines_of c.args.lines.now.rest.now) (lines_of c.read_run.new.lines.rest.now) c.args.lines.now.taken c.read_run.new.lines.taken c.args.counter.now c.read_run.new.counter c.read_run.result.now run.1
