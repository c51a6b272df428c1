use Rattle.std.proofs.Common.{sym}
use Rattle.spelled_numbers.proofs.Objects.{two_members}
use Rattle.spelled_numbers.proofs.levels.stand_for_number.Goals as goal

pub returns-in-len2-up : goal.returns-in-len2-up
returns-in-len2-up c = sym (two_members c.args.members.now c.in-len2-up.len_at_least)
