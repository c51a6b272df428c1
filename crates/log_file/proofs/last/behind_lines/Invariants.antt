use Rattle.std.proofs.Common.{◌≤◌, length}
use Rattle.log_file.specs.Last.{SkipsLines}
use Rattle.log_file.proofs.last.behind_lines.Given as goal

-- so many lines were cut off
abbrev pub invariant-loop-line : goal.invariant-loop-line
invariant-loop-line l = SkipsLines l._line l.bytes l.rest × (length l.rest ≤ length l.bytes)
