use Rattle.std.proofs.Common.{◌<◌, ◌≤◌, ◌^◌, ◌∙◌, arith, is_some, length, sym, ap}
use Rattle.flagops_drive.specs.Asks.{asks_in, asks_of}
use Rattle.flagops_drive.specs.File.{file_view}
use Rattle.flagops_drive.specs.Plain.{asks_shape}
use Rattle.flagops_drive.proofs.PlainFile.{asks_asked, plain_few, plain_many}
use Rattle.flagops_drive.proofs.asks.ask_items.Goals as goal

pub returns-then-len-gt-MOST_ASKS-clause-are : goal.returns-then-len-gt-MOST_ASKS-clause-are
returns-then-len-gt-MOST_ASKS-clause-are c =
    let many : 2 ^ 32 ≤ length c.in-Plain.asks.items = omega (arith, c.len.ensures, c.if-len-gt-MOST_ASKS.true) in
    sym (ap (λ f. is_some (asks_of (file_view f))) c.in-Plain.is ∙ ap is_some (plain_many c.in-Plain.asks.items many))

pub returns-else-len-gt-MOST_ASKS-clause-are : goal.returns-else-len-gt-MOST_ASKS-clause-are
returns-else-len-gt-MOST_ASKS-clause-are c =
    let few : length c.in-Plain.asks.items < 2 ^ 32 = omega (arith, c.len.ensures, c.if-len-gt-MOST_ASKS.false) in
    sym (ap (λ f. is_some (asks_of (file_view f))) c.in-Plain.is ∙ ap is_some (plain_few c.in-Plain.asks.items few))

pub returns-else-len-gt-MOST_ASKS-clause-items : goal.returns-else-len-gt-MOST_ASKS-clause-items
returns-else-len-gt-MOST_ASKS-clause-items c =
    let few : length c.in-Plain.asks.items < 2 ^ 32 = omega (arith, c.len.ensures, c.if-len-gt-MOST_ASKS.false) in
    ap (λ asks. asks_in (asks_shape asks)) c.as_slice.ensures.value ∙ (asks_asked c.in-Plain.asks.items ∙ sym (ap (λ f. asks_of (file_view f)) c.in-Plain.is ∙ plain_few c.in-Plain.asks.items few))
