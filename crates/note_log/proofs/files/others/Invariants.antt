use Rattle.std.proofs.Common.{◌≡◌, filter, nat_eq, not, take}
use Rattle.note_log.proofs.files.others.Given as goal

abbrev pub invariant-loop-other : goal.invariant-loop-other
invariant-loop-other l = l.others.items ≡ filter (λ n. not (nat_eq n l.number)) (take l.other-index l.numbers)
