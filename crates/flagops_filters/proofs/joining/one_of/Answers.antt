use Rattle.std.proofs.Common.{ℕ, List, Ok, subst}
use Rattle.flagops_filters.specs.Join.{IsTallyIn}
use Rattle.flagops_filters.specs.Joined.{JoinsUnless}
use Rattle.flagops_filters.proofs.Joins.{loaded, not_loaded}
use Rattle.flagops_filters.proofs.Naming.{loaded_named}
use Rattle.flagops_filters.proofs.joining.one_of.Goals as goal

pub returns-in-Ok-clause-exact : goal.returns-in-Ok-clause-exact
returns-in-Ok-clause-exact g c =
    loaded c.args.path.now (g.F.FileSet.holding c.args.files.now) c.in-Ok.bytes.items c.read.result c.in-Ok.ensures.exact
    (subst (λ (b : List ℕ). JoinsUnless c.read.result (IsTallyIn (Ok b))) c.as_slice.ensures.value c.read.ensures.exact)

pub returns-in-Err-clause-exact : goal.returns-in-Err-clause-exact
returns-in-Err-clause-exact g c = not_loaded c.args.path.now (g.F.FileSet.holding c.args.files.now) c.in-Err.refused c.of.result c.of.ensures.refusal c.in-Err.ensures.exact

pub returns-in-Err-clause-names : goal.returns-in-Err-clause-names
returns-in-Err-clause-names g c = loaded_named c.args.path.now c.in-Err.refused c.of.result c.of.ensures.refusal c.of.ensures.remark c.in-Err.ensures.names
