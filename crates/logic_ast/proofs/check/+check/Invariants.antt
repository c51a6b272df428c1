use Rattle.std.proofs.Common.{◌≡◌, drop}
use Rattle.flag_text.specs.View.{items_view}
use Rattle.logic_ast.specs.FirstFault.{expressions_fault}
use Rattle.logic_ast.proofs.check.+check.Given as goal

abbrev pub invariant-expressions_fault-loop-item : goal.invariant-expressions_fault-loop-item
invariant-expressions_fault-loop-item l = expressions_fault (items_view l.items) ≡ expressions_fault (items_view (drop l.item-index l.items))
