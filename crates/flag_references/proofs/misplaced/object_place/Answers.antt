use Rattle.std.proofs.Common.{sym}
use Rattle.flag_references.proofs.Misused.{object_place-several}
use Rattle.flag_references.proofs.misplaced.object_place.Goals as goal

pub returns-in-len2-up : goal.returns-in-len2-up
returns-in-len2-up c = sym (object_place-several c.args.members.now c.in-len2-up.len_at_least)
