use Rattle.std.proofs.Common.{◌≤◌, IfSome}
use Rattle.log_file.specs.Last.{LeavesOf}
use Rattle.log_file.proofs.last.last_start.Given as goal

abbrev pub invariant-loop-end : goal.invariant-loop-end
invariant-loop-end g l = (l.end ≤ l.fn.len) × IfSome (g.F.LogFile.bytes l.file) (LeavesOf l.fn.most l.end l.left)

abbrev pub decreases-loop-end : goal.decreases-loop-end
decreases-loop-end g l = l.end
