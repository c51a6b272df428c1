use Rattle.std.proofs.Common.{◌≡◌, ◌+◌, sym, ◌∙◌, arith}
use Rattle.logic_ast.specs.Expr.{view}
use Rattle.logic_ast.specs.Formed.{is_formed}
use Rattle.logic_ast.specs.Sites.{preorder}
use Rattle.logic_ast.proofs.Numbered.{length-preorder, numbered-preorder, number-at}
use Rattle.logic_ast.proofs.WellFormed.{sites-small}
use Rattle.logic_ast.proofs.Written.{left}
use Rattle.logic_ast.proofs.lookup.sites.Goals as goal

pub count-requires : goal.count-requires
count-requires c = sites-small (view c.args.expr.now) c.args.expr.now.well_formed

pub returns-clause-value : goal.returns-clause-value
returns-clause-value c = c.count.ensures ∙ sym (length-preorder (view c.args.expr.now))

pub returns-clause-numbered : goal.returns-clause-numbered
returns-clause-numbered c =
    let e = view c.args.expr.now in
    λ n. let place : n ≡ 0 + n = omega arith in number-at 0 n n (preorder e) (numbered-preorder 0 e (left (is_formed 0 e) _ c.args.expr.now.well_formed)) place
