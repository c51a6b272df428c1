use Rattle.rollout.proofs.Changed.{changed, others}
use Rattle.rollout.proofs.Resolved.{as_before}
use Rattle.rollout.proofs.Sites.{steps_of}
use Rattle.rollout.proofs.laws.applied_is_local.Goals as goal

pub returns : goal.returns
returns c = λ flags key site rule after lawful total is.
    let s = steps_of flags key site rule after is in
    let one = changed flags key s.flag s.changed lawful.rise s.was site rule after s.made s.is in
    let rest = others flags key s.flag s.changed lawful.rise s.was after s.is in
    record { changed = one; others = rest; resolutions = as_before flags after key site rule lawful total one rest }
