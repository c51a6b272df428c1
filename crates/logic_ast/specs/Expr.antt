-- The expression that an `Expr` is.
use Rattle.logic_ast.specs.Expression.{Expression}
use Rattle.logic_ast.specs.View.{node_view}
use Rattle.logic_ast.specs.declared.expr.Expr.{Expr}

abbrev pub view : Expr → Expression
view e = node_view e.root
