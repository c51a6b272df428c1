use Rattle.std.proofs.Common.{map, ap, refl, ◌∙◌}
use Rattle.logic_ast.specs.Expr.{view}
use Rattle.logic_eval.specs.Budget.{Progress}
use Rattle.logic_eval.specs.Scope.{default_input, root_scope}
use Rattle.logic_eval.specs.Views.{reach_view, situation}
use Rattle.logic_eval.proofs.Exits.{exits}
use Rattle.logic_eval.proofs.Results.{outcome, evaluation_of-paid}
use Rattle.logic_eval.specs.Scalar.{scalar_of}
use Rattle.logic_eval.proofs.Scalars.{scalar-outcome}
use Rattle.logic_eval.proofs.scalar.eval_scalar.Goals as goal

pub returns-in_err-tree : goal.returns-in_err-tree
returns-in_err-tree c =
    let s = situation c.args.context.now in
    let p : Progress = (100000, map reach_view c.new.result.items) in
    exits _ _ _ _ c.from_residual-in_err-tree.ensures.1
    (λ n. ap scalar_of (evaluation_of-paid (view c.args.expr.now) s (default_input s) (root_scope s) p (view c.args.expr.now) refl refl (ap (λ rs. let q : Progress = (100000, map reach_view rs) in q) c.new.ensures.items) refl)
    ∙ (scalar-outcome _ ∙ ap outcome (c.in_err-tree.ensures.exact n)))

pub returns : goal.returns
returns c =
    let s = situation c.args.context.now in
    let p : Progress = (100000, map reach_view c.new.result.items) in
    ap scalar_of (evaluation_of-paid (view c.args.expr.now) s (default_input s) (root_scope s) p (view c.args.expr.now) refl refl (ap (λ rs. let q : Progress = (100000, map reach_view rs) in q) c.new.ensures.items) refl)
    ∙ (scalar-outcome _ ∙ ap outcome c.in_ok-tree.ensures.exact)
