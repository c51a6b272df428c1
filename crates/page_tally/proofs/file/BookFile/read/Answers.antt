-- a file that is read is a book, and its fault is the book's
use Rattle.std.proofs.Common.{ap, sym, ◌∙◌}
use Rattle.page_tally.specs.Tally.{tally_of}
use Rattle.page_tally.proofs.Filed.{tally_given, tally_refused}
use Rattle.page_tally.proofs.file.BookFile.read.Goals as goal

pub invariant_of-result : goal.invariant_of-result
invariant_of-result g c =
    tally_given c.args.bytes.items c.args.page c.args.total c.in-Ok.counts.items c.requires.some (ap (λ bs. tally_of bs c.args.page c.args.total) (sym c.as_slice.ensures.value) ∙ c.in-Ok.ensures)

pub returns-in-Ok : goal.returns-in-Ok
returns-in-Ok g c =
    let file = tally_given c.args.bytes.items c.args.page c.args.total c.in-Ok.counts.items c.requires.some (ap (λ bs. tally_of bs c.args.page c.args.total) (sym c.as_slice.ensures.value) ∙ c.in-Ok.ensures) in
    file.book

pub returns-in-Err : goal.returns-in-Err
returns-in-Err g c = λ want. tally_refused c.args.bytes.items c.args.page c.args.total c.in-Err.fault (ap (λ bs. tally_of bs c.args.page c.args.total) (sym c.as_slice.ensures.value) ∙ c.in-Err.ensures want)
