use Rattle.std.proofs.Common.{◌<◌, rules}
use Rattle.note_log.proofs.Numbers.{add_gone, others_gone}
use Rattle.note_log.proofs.files.Files.replace.Goals as goal

pub returns-then-old-self-clause-closed : goal.returns-then-old-self-clause-closed
returns-then-old-self-clause-closed c = others_gone c.args.old.number c.args.self.now.numbers.items c.close.new.self.numbers.items c.close.ensures.left

pub returns-clause-closed : goal.returns-clause-closed
returns-clause-closed c =
    let closed = c.close.new.self in
    let less : c.args.old.number < closed.next = search rules in
    add_gone c.args.old.number closed.next c.add.result closed.numbers.items c.add.new.self.numbers.items less (others_gone c.args.old.number c.args.self.now.numbers.items closed.numbers.items c.close.ensures.left)
    c.add.ensures.numbers c.add.ensures.number c.add.ensures.unopened
