use Rattle.std.proofs.Common.{◌+◌, drop, ◌∙◌}
use Rattle.std.proofs.lemmas.List.{drop_all}
use Rattle.byte_streams.specs.Lines.{lines_view}
use Rattle.note_streams.proofs.Cut.{all_cut, first_file_left, more_files}
use Rattle.note_streams.specs.LogLines.{all_lines, files_view}
use Rattle.note_streams.proofs.distinct.all_lines.Goals as goal

pub loop-file-preserved : goal.loop-file-preserved
loop-file-preserved c =
    let files = c.args.files.now in
    let i = c.loop-file.file-index in
    more_files (files_view (drop i files)) (files_view (drop (i + 1) files)) _ (lines_view c.loop-file.lines.items) (lines_view c.add_lines.new.lines.items) (all_lines (files_view files))
    c.in_ok-add_lines.ensures (first_file_left files i _ c.loop-file-test.true) c.loop-file.invariant

pub returns : goal.returns
returns c =
    let files = c.args.files.now in
    let i = c.loop-file.file-index in
    all_cut files i (lines_view c.loop-file.lines.items) (drop_all i files c.loop-file-test.false) ∙ c.loop-file.invariant
