use Rattle.std.proofs.Common.{◌≡◌}
use Rattle.flag_doubts.proofs.doubled.listed.Given as goal

abbrev pub invariant-loop-key : goal.invariant-loop-key
invariant-loop-key l = l.list.items ≡ l.yielded
