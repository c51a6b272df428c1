use Rattle.std.proofs.Common.{◌≡◌, map, length, true, ap, refl, ◌∙◌}
use Rattle.std.specs.List.{All}
use Rattle.flag_text.specs.Shape.{is_whole}
use Rattle.flag_text.specs.View.{view as tree_view}
use Rattle.logic_ast.specs.Expr.{view}
use Rattle.logic_eval.specs.Budget.{Progress}
use Rattle.logic_eval.specs.Laws.{IsOfSite}
use Rattle.logic_eval.specs.Scope.{default_input, root_scope}
use Rattle.logic_eval.specs.Views.{reach_view, situation}
use Rattle.logic_eval.proofs.Answered.{answer_of, reached_none, no_value}
use Rattle.logic_eval.proofs.Exits.{exits}
use Rattle.logic_eval.proofs.Results.{outcome, evaluation_of-paid}
use Rattle.logic_eval.proofs.evaluation.eval.Goals as goal

pub returns-in_err-tree : goal.returns-in_err-tree
returns-in_err-tree c =
    let s = situation c.args.context.now in
    let p : Progress = (100000, map reach_view c.new.result.items) in record {
      exact = exits _ _ _ _ c.from_residual-in_err-tree.ensures.1
          (λ n. evaluation_of-paid (view c.args.expr.now) s (default_input s) (root_scope s) p (view c.args.expr.now) refl refl (ap (λ rs. let q : Progress = (100000, map reach_view rs) in q) c.new.ensures.items) refl
          ∙ ap outcome (c.in_err-tree.ensures.exact n));
      whole = no_value (λ r. is_whole (tree_view r.0) ≡ true) c.from_residual-in_err-tree.result _ c.from_residual-in_err-tree.ensures.1;
      reached = no_value (λ r. All (IsOfSite (view c.args.expr.now)) (map reach_view r.1.items)) c.from_residual-in_err-tree.result _ c.from_residual-in_err-tree.ensures.1;
      unreached = λ none. no_value (λ r. length r.1.items ≡ 0) c.from_residual-in_err-tree.result _ c.from_residual-in_err-tree.ensures.1;
    }

pub returns : goal.returns
returns c =
    let s = situation c.args.context.now in
    let p : Progress = (100000, map reach_view c.new.result.items) in
    let is = evaluation_of-paid (view c.args.expr.now) s (default_input s) (root_scope s) p (view c.args.expr.now) refl refl (ap (λ rs. let q : Progress = (100000, map reach_view rs) in q) c.new.ensures.items) refl
    ∙ ap outcome c.in_ok-tree.ensures.exact in
    let answer = answer_of (view c.args.expr.now) s _ c.args.expr.now.well_formed c.args.context.now.tidy c.args.context.now.small is in record {
      exact = is;
      whole = answer.whole;
      reached = answer.reached;
      unreached = λ none. reached_none reach_view (view c.args.expr.now) _ none answer.reached;
    }
