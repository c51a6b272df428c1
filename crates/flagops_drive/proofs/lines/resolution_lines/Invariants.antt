use Rattle.std.proofs.Common.{◌≡◌, ◌++◌, string_bytes}
use Rattle.flag_defs.specs.Floats.{marked_view}
use Rattle.flagops_drive.proofs.Spelled.{lines_from}
use Rattle.flagops_drive.proofs.lines.resolution_lines.Given as goal

abbrev pub invariant-loop-index : goal.invariant-loop-index
invariant-loop-index l = string_bytes l.lines ++ lines_from (marked_view l.flags) l.asks l.answers l.index ≡ lines_from (marked_view l.flags) l.asks l.answers 0
