use Rattle.std.proofs.Common.{ap, ◌∙◌}
use Rattle.logic_ast.specs.Ends.{ends_view}
use Rattle.logic_ast.specs.Expr.{view}
use Rattle.logic_ast.proofs.Summed.{has_ends}
use Rattle.logic_ast.proofs.expr.Expr.ends.Goals as goal

pub returns : goal.returns
returns c = has_ends (view c.args.self.now) (ends_view c.as_slice.result.now) (ap ends_view c.as_slice.ensures.value ∙ c.args.self.now.summed) c.args.self.now.well_formed
