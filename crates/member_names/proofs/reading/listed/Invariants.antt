use Rattle.std.proofs.Common.{◌≡◌}
use Rattle.member_names.proofs.reading.listed.Given as goal

abbrev pub invariant-loop-member : goal.invariant-loop-member
invariant-loop-member l = l.list.items ≡ l.yielded
