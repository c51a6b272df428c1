use Rattle.std.proofs.Common.{◌<◌, length, IfSome}
use Rattle.log_file.specs.Piece.{HasNoLineFrom}
use Rattle.log_file.proofs.torn.whole_part.Given as goal

abbrev pub invariant-loop-end : goal.invariant-loop-end
invariant-loop-end g l = (0 < length l.piece) × IfSome (g.F.LogFile.bytes l.file) (HasNoLineFrom l.end)

abbrev pub decreases-loop-end : goal.decreases-loop-end
decreases-loop-end g l = l.end
