use Rattle.std.proofs.Common.{refl}
use Rattle.flagops_files.specs.Losses.{losses_at}
use Rattle.flagops_shell.proofs.Lifted.{given_so, refused_so}
use Rattle.flagops_files.specs.Refusal as files
use Rattle.flagops_commands.specs.Refusal.{is_want}
use Rattle.flagops_commands.specs.declared.refusal.ListedRefusal.TheVariants.{Load}
use Rattle.flagops_commands.proofs.loading.load_losses.Goals as goal

pub returns-in-Ok-clause-exact : goal.returns-in-Ok-clause-exact
returns-in-Ok-clause-exact g c = given_so files.is_want is_want Load (λ e. refl) (λ at. losses_at at c.args.path.now c.args.new.now) (g.F.FileSet.holding c.args.files.now) c.in-Ok.lost c.in-Ok.ensures.exact

pub returns-in-Err-clause-exact : goal.returns-in-Err-clause-exact
returns-in-Err-clause-exact g c = refused_so files.is_want is_want Load (λ e. refl) (λ at. losses_at at c.args.path.now c.args.new.now) (g.F.FileSet.holding c.args.files.now) c.in-Err.refused c.of.result c.of.ensures.refusal c.in-Err.ensures.exact
