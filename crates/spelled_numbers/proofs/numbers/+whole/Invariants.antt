use Rattle.std.proofs.Common.{◌≡◌, drop}
use Rattle.json.specs.Value.{items_view, members_view}
use Rattle.spelled_numbers.specs.Floats.{items_have_whole_numbers, members_have_whole_numbers}
use Rattle.spelled_numbers.proofs.numbers.+whole.Given as goal

abbrev pub invariant-items_have_whole_numbers-loop-item : goal.invariant-items_have_whole_numbers-loop-item
invariant-items_have_whole_numbers-loop-item l = items_have_whole_numbers (items_view l.item-items) ≡ items_have_whole_numbers (items_view (drop l.item-index l.item-items))

abbrev pub invariant-members_have_whole_numbers-loop-member : goal.invariant-members_have_whole_numbers-loop-member
invariant-members_have_whole_numbers-loop-member l = members_have_whole_numbers (members_view l.member-items) ≡ members_have_whole_numbers (members_view (drop l.member-index l.member-items))
