use Rattle.std.proofs.Common.{◌≡◌, ◌∙◌, None, Some, sym}
use Rattle.book_core.specs.Reading.{line_of}
use Rattle.flagops_files.specs.LostLines.{has_line}
use Rattle.flagops_files.proofs.Counted.{ends_file, ends_page, one_more}
use Rattle.flagops_files.proofs.counting.lost_first.Goals as goal

pub returns-in_default : goal.returns-in_default
returns-in_default c = ends_file c.args.new.now c.args.page.now c.args.bytes.now c.inputs.lost c.inputs.rest.now c.inputs.invariant c.in_default.ensures.parts

pub returns-in-None : goal.returns-in-None
returns-in-None c =
    ends_page c.args.new.now c.args.page.now c.args.bytes.now c.inputs.lost c.inputs.rest.now c.inputs.invariant c.in-Some.line.now c.in-Some.behind.now c.in-Some.ensures.parts c.in-Some.ensures.lengths (sym c.in-None.is ∙ c.in_ok-found.ensures)

pub inputs-preserved : goal.inputs-preserved
inputs-preserved c =
    one_more c.args.new.now c.args.page.now c.args.bytes.now c.inputs.lost c.inputs.rest.now c.inputs.invariant c.in-Some.line.now c.in-Some.behind.now c.in-Some.ensures.parts c.in-Some.ensures.lengths c.in-Some-found.is_kept c.from-lost.result (sym c.in-Some-found.is ∙ c.in_ok-found.ensures) c.from-lost.ensures
