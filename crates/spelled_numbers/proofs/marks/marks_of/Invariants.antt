use Rattle.std.proofs.Common.{◌≡◌, ◌++◌, drop, map}
use Rattle.json.specs.Value.{members_view}
use Rattle.spelled_numbers.specs.Marks.{marks_of}
use Rattle.spelled_numbers.specs.View.{mark_view}
use Rattle.spelled_numbers.proofs.marks.marks_of.Given as goal

abbrev pub invariant-loop-key : goal.invariant-loop-key
invariant-loop-key l = map mark_view l.marks.items ++ marks_of (members_view (drop l.key-index l.key-items)) ≡ marks_of (members_view l.key-items)
