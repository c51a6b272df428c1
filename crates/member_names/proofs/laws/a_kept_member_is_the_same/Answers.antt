use Rattle.member_names.proofs.Same.{same_member}
use Rattle.member_names.proofs.laws.a_kept_member_is_the_same.Goals as goal

pub returns : goal.returns
returns c = same_member
