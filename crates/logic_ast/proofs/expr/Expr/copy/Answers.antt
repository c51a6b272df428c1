use Rattle.std.proofs.Common.{ap, ◌∙◌}
use Rattle.logic_ast.specs.Formed.{is_well_formed}
use Rattle.logic_ast.specs.Expr.{view}
use Rattle.logic_ast.proofs.Lowered.{lowered-zero}
use Rattle.logic_ast.proofs.expr.Expr.copy.Goals as goal

pub of-requires : goal.of-requires
of-requires c = ap is_well_formed (c.in_ok-root.ensures ∙ lowered-zero (view c.args.self.now)) ∙ c.args.self.now.well_formed

pub returns : goal.returns
returns c = c.in_ok-of.ensures ∙ (c.in_ok-root.ensures ∙ lowered-zero (view c.args.self.now))
