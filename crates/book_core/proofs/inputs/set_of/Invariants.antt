use Rattle.std.proofs.Common.{◌≡◌, ◌≤◌, map, length, drop, string_bytes}
use Rattle.book_core.proofs.inputs.set_of.Given as goal

abbrev pub invariant-loop-left : goal.invariant-loop-left
invariant-loop-left l = record {
  inside : l.left ≤ length l.list;
  gathered : map string_bytes l.set.keys ≡ drop l.left (map string_bytes l.list);
}

abbrev pub decreases-loop-left : goal.decreases-loop-left
decreases-loop-left l = l.left
