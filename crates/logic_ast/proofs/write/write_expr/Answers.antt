use Rattle.std.proofs.Common.{ap, ◌∙◌}
use Rattle.std.proofs.lemmas.Result.{IfOk-weaker}
use Rattle.flag_text.specs.Shape.{is_whole}
use Rattle.logic_ast.specs.Expr.{view}
use Rattle.logic_ast.specs.Formed.{is_formed}
use Rattle.logic_ast.specs.Reading.{reading}
use Rattle.logic_ast.specs.Size.{expression_size}
use Rattle.logic_ast.proofs.Stripped.{size-written}
use Rattle.logic_ast.proofs.WellFormed.{is_whole-written, reading-written}
use Rattle.logic_ast.proofs.Written.{left}
use Rattle.logic_ast.proofs.write.write_expr.Goals as goal

pub returns-clause-whole : goal.returns-clause-whole
returns-clause-whole c =
    let e = view c.args.expr.now in
    IfOk-weaker c.write_node.result _ _ (λ t is. ap is_whole is ∙ is_whole-written 0 e (left (is_formed 0 e) _ c.args.expr.now.well_formed)) c.write_node.ensures

pub returns-clause-size : goal.returns-clause-size
returns-clause-size c =
    let e = view c.args.expr.now in
    IfOk-weaker c.write_node.result _ _ (λ t is. ap expression_size is ∙ size-written 0 e (left (is_formed 0 e) _ c.args.expr.now.well_formed)) c.write_node.ensures

pub returns-clause-reads_back : goal.returns-clause-reads_back
returns-clause-reads_back c =
    IfOk-weaker c.write_node.result _ _ (λ t is. ap reading is ∙ reading-written (view c.args.expr.now) c.args.expr.now.well_formed) c.write_node.ensures
