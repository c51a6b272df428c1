use Rattle.std.proofs.Common.{string_bytes}
use Rattle.book_core.specs.Reading.{book_of}
use Rattle.flagops_books.proofs.Unions.{full_book, united_book}
use Rattle.flagops_books.proofs.uniting.with_book.Goals as goal

pub returns-in-Ok-clause-exact : goal.returns-in-Ok-clause-exact
returns-in-Ok-clause-exact c = λ now is_of.
    united_book now c.args.all.book c.in_ok-other.other (book_of c.args.bytes.now) is_of c.in_ok-other.ensures.exact (record { book = c.in-Ok.both; told = c.args.all.told }) c.in-Ok.ensures

pub returns-clause-exact : goal.returns-clause-exact
returns-clause-exact c = λ now is_of.
    full_book now c.args.all.book c.in_ok-other.other (book_of c.args.bytes.now) is_of c.in_ok-other.ensures.exact (string_bytes c.args.all.told) c.in-Err.fault c.not_united.result c.in-Err.ensures c.not_united.ensures.refusal
