use Rattle.std.proofs.Common.{◌≡◌, rules, true}
use Rattle.note_log.specs.Files.{is_among}
use Rattle.note_log.proofs.Numbers.{kept_below}
use Rattle.note_log.proofs.files.Files.keep.Goals as goal

pub invariant_of-self : goal.invariant_of-self
invariant_of-self c =
    let self = c.args.self.now in
    let is : is_among c.args.file.number self.numbers.items ≡ true = search rules in
    record { below = kept_below self.next c.args.file.number self.numbers.items self.history.items c.and-self.result.items c.args.handed.now is c.and-self.ensures self.below }
