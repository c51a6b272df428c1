use Rattle.std.proofs.Common.{◌≡◌, drop}
use Rattle.json.specs.Value.{members_view}
use Rattle.spelled_numbers.specs.Floats.{all_counting}
use Rattle.spelled_numbers.specs.View.{test_of}
use Rattle.spelled_numbers.proofs.variants.all_counting.Given as goal

abbrev pub invariant-loop-i : goal.invariant-loop-i
invariant-loop-i l = all_counting (test_of l.wanted) (members_view l.members.items) ≡ all_counting (test_of l.wanted) (members_view (drop l.i l.members.items))
