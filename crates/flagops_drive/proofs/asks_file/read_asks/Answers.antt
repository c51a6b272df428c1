use Rattle.std.proofs.Common.{◌≡◌, Err, ap}
use Rattle.flag_text.specs.Reading.{if_whole, tree_of}
use Rattle.flag_text.specs.declared.fault.TextFault.TheVariants.{NotJson}
use Rattle.flag_text.proofs.Readings.{doc_of-none, no_utf8}
use Rattle.flagops_drive.proofs.PlainAsks.{asks_are_whole}
use Rattle.flagops_drive.proofs.asks_file.read_asks.Goals as goal

pub returns-in-Ok-clause-whole : goal.returns-in-Ok-clause-whole
returns-in-Ok-clause-whole c = asks_are_whole c.in-Ok.asks.items

-- what is no text has no asks
pub returns-in-Ok-clause-no_text : goal.returns-in-Ok-clause-no_text
returns-in-Ok-clause-no_text c = λ within other.
    let none : tree_of c.args.bytes.now c.args.max ≡ Err NotJson = ap if_whole (doc_of-none c.args.bytes.now c.args.max within (λ u. absurd (no_utf8 c.args.bytes.now u other))) in
    let some = c.in-Ok.ensures.value in
    cc
