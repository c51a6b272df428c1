use Rattle.std.proofs.Common.{◌∙◌, ap, sym}
use Rattle.std.specs.List.{slice_split}
use Rattle.book_core.specs.Reading.{is_feed}
use Rattle.flagops_files.proofs.Counted.{of_book}
use Rattle.flagops_files.proofs.counting.lost_inputs.Goals as goal

pub returns-in-Some : goal.returns-in-Some
returns-in-Some c =
    of_book c.in_ok-file.file.items c.in-Some._header.now c.in-Some.lines.now c.args.old.now c.args.new.now c.lost_on.result (sym (ap (slice_split is_feed) c.as_slice.ensures.value) ∙ c.in-Some.ensures.parts) c.in_ok-file.ensures.reads_back c.lost_on.ensures
