use Rattle.std.proofs.Common.{◌≤◌}
use Rattle.picture.proofs.change.next_move.Given as goal

abbrev pub invariant-loop-run : goal.invariant-loop-run
invariant-loop-run l = l.begin ≤ l.total
