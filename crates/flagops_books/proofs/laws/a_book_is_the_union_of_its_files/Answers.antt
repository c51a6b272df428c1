use Rattle.flagops_books.proofs.Whole.{unites_files}
use Rattle.flagops_books.proofs.laws.a_book_is_the_union_of_its_files.Goals as goal

pub returns : goal.returns
returns c = unites_files
