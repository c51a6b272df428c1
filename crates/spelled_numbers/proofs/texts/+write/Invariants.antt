use Rattle.std.proofs.Common.{◌≡◌, ◌+◌, ◌*◌, ◌++◌, drop}
use Rattle.json.specs.Tree.{MembersHaveNumbers, members_tokens}
use Rattle.json.specs.Value.{members_view}
use Rattle.spelled_numbers.specs.Floats.{each_member}
use Rattle.spelled_numbers.specs.View.{member_of, rank}
use Rattle.spelled_numbers.proofs.texts.+write.Given as goal

abbrev pub decreases-write_object : goal.decreases-write_object
decreases-write_object l = 3 * rank l.level + 2

abbrev pub decreases-write_members : goal.decreases-write_members
decreases-write_members l = 3 * rank l.level + 1

abbrev pub decreases-write_member : goal.decreases-write_member
decreases-write_member l = 3 * rank l.level

abbrev pub invariant-write_members-loop-name : goal.invariant-write_members-loop-name
invariant-write_members-loop-name l =
    let rest = members_view (drop l.name-index l.name-items) in
    let all = members_view l.name-items in
    (l.writer.tokens ++ members_tokens (each_member (member_of l.level) rest) ≡ l.initial.writer.tokens ++ members_tokens (each_member (member_of l.level) all))
    × MembersHaveNumbers rest × (l.writer.before ≡ l.initial.writer.before)
