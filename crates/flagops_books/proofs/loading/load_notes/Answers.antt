use Rattle.std.proofs.Common.{refl}
use Rattle.flagops_shell.proofs.Lifted.{given_so, refused_so}
use Rattle.flagops_files.specs.Question.{notes_bytes_at}
use Rattle.flagops_files.specs.Refusal as files
use Rattle.flagops_books.specs.Refusal.{is_want}
use Rattle.flagops_books.specs.declared.refusal.BookRefusal.TheVariants.{Load}
use Rattle.flagops_books.proofs.loading.load_notes.Goals as goal

pub returns-in-Ok-clause-exact : goal.returns-in-Ok-clause-exact
returns-in-Ok-clause-exact g c = given_so files.is_want is_want Load (λ e. refl) (λ at. notes_bytes_at at c.args.passing c.args.path.now) (g.F.FileSet.holding c.args.files.now) c.in-Ok.bytes.items c.in-Ok.ensures.exact

pub returns-in-Err-clause-exact : goal.returns-in-Err-clause-exact
returns-in-Err-clause-exact g c = refused_so files.is_want is_want Load (λ e. refl) (λ at. notes_bytes_at at c.args.passing c.args.path.now) (g.F.FileSet.holding c.args.files.now) c.in-Err.refused c.of.result c.of.ensures.refusal c.in-Err.ensures.exact
