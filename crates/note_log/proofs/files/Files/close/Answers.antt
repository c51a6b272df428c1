use Rattle.std.proofs.Common.{ℕ, List, subst}
use Rattle.note_log.specs.Files.{AreOthers}
use Rattle.note_log.proofs.Numbers.{others_below}
use Rattle.note_log.proofs.files.Files.close.Goals as goal

pub invariant_of-self : goal.invariant_of-self
invariant_of-self c =
    let self = c.args.self.now in
    let others = c.others_or_none.result.items in
    let left : AreOthers c.args.old.number self.numbers.items others = subst (λ (ns : List ℕ). AreOthers c.args.old.number ns others) c.as_slice.ensures.value c.others_or_none.ensures in
    record { below = others_below c.args.old.number self.next self.numbers.items others self.history.items left self.below }
