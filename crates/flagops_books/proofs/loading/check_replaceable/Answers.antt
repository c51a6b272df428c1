use Rattle.std.proofs.Common.{refl}
use Rattle.flagops_shell.proofs.Lifted.{given_so, refused_so}
use Rattle.flagops_files.specs.Question.{replaceable_at}
use Rattle.flagops_files.specs.Refusal as files
use Rattle.flagops_books.specs.Refusal.{is_want}
use Rattle.flagops_books.specs.declared.refusal.BookRefusal.TheVariants.{Load}
use Rattle.flagops_books.proofs.loading.check_replaceable.Goals as goal

pub returns-in-Ok-clause-exact : goal.returns-in-Ok-clause-exact
returns-in-Ok-clause-exact g c = given_so files.is_want is_want Load (λ e. refl) (λ at. replaceable_at at c.args.path.now) (g.F.FileSet.holding c.args.files.now) tt c.in-Ok.ensures.exact

pub returns-in-Err-clause-exact : goal.returns-in-Err-clause-exact
returns-in-Err-clause-exact g c = refused_so files.is_want is_want Load (λ e. refl) (λ at. replaceable_at at c.args.path.now) (g.F.FileSet.holding c.args.files.now) c.in-Err.refused c.of.result c.of.ensures.refusal c.in-Err.ensures.exact
