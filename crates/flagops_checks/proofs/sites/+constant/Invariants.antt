use Rattle.std.proofs.Common.{◌≡◌, drop}
use Rattle.logic_ast.specs.View.{nodes_view}
use Rattle.flagops_checks.specs.Sites.{are_constant}
use Rattle.flagops_checks.proofs.sites.+constant.Given as goal

-- each so far is constant: all are as those that are left
abbrev pub invariant-are_constant-loop-node : goal.invariant-are_constant-loop-node
invariant-are_constant-loop-node l = are_constant (nodes_view l.node-items) ≡ are_constant (nodes_view (drop l.node-index l.node-items))
