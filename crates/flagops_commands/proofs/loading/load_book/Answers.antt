use Rattle.flagops_commands.proofs.Loaded.{no_book, book_there}
use Rattle.flagops_commands.proofs.loading.load_book.Goals as goal

pub returns-in-Ok-clause-exact : goal.returns-in-Ok-clause-exact
returns-in-Ok-clause-exact g c = book_there (g.F.FileSet.holding c.args.files.now) c.args.path.now c.in-Ok.book c.in-Ok.ensures.exact

pub returns-in-Err-clause-exact : goal.returns-in-Err-clause-exact
returns-in-Err-clause-exact g c = no_book (g.F.FileSet.holding c.args.files.now) c.args.path.now c.in-Err.refused c.of.result c.of.ensures.refusal c.in-Err.ensures.exact
