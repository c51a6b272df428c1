use Rattle.std.proofs.Common.{◌≡◌, ◌++◌, drop}
use Rattle.byte_streams.specs.Lines.{lines_view}
use Rattle.note_streams.specs.LogLines.{all_lines, files_view}
use Rattle.note_streams.proofs.distinct.all_lines.Given as goal

-- the lines so far, and those of the files that are left, are those of all
abbrev pub invariant-loop-file : goal.invariant-loop-file
invariant-loop-file l = lines_view l.lines.items ++ all_lines (files_view (drop l.file-index l.files)) ≡ all_lines (files_view l.files)
