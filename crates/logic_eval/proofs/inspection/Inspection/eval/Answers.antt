use Rattle.std.proofs.Common.{map, ap, ◌∙◌}
use Rattle.logic_ast.specs.View.{node_view}
use Rattle.logic_eval.specs.Budget.{Progress}
use Rattle.logic_eval.specs.Parts.{inspected}
use Rattle.logic_eval.specs.Views.{reach_view}
use Rattle.logic_eval.proofs.Exits.{exits}
use Rattle.logic_eval.proofs.Results.{outcome, given_by-paid}
use Rattle.logic_eval.proofs.inspection.Inspection.eval.Goals as goal

pub returns-in_err-tree : goal.returns-in_err-tree
returns-in_err-tree c =
    let p : Progress = (100000, map reach_view c.new.result.items) in record {
      exact = exits _ _ _ _ c.from_residual-in_err-tree.ensures.1
          (λ n. given_by-paid c.args.tested (node_view c.args.node.now) (inspected c.args.self.now) p (ap (λ rs. let q : Progress = (100000, map reach_view rs) in q) c.new.ensures.items)
          ∙ ap outcome (c.in_err-tree.ensures.exact n));
    }

pub returns : goal.returns
returns c =
    let p : Progress = (100000, map reach_view c.new.result.items) in record {
      exact = given_by-paid c.args.tested (node_view c.args.node.now) (inspected c.args.self.now) p (ap (λ rs. let q : Progress = (100000, map reach_view rs) in q) c.new.ensures.items)
          ∙ ap outcome c.in_ok-tree.ensures.exact;
    }
