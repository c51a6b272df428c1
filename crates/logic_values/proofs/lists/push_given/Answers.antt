use Rattle.std.proofs.Common.{◌<◌, length, ◌∙◌, arith}
use Rattle.logic_values.proofs.Tidy.{item_tidy, one_more}
use Rattle.logic_values.proofs.lists.push_given.Goals as goal

pub invariant_of-push : goal.invariant_of-push
invariant_of-push c = record { tidy = item_tidy c.args.parts.now c.loop-tree.tree-index c.tree-item.result c.requires (omega arith) c.tree-item.is }

pub loop-tree-preserved : goal.loop-tree-preserved
loop-tree-preserved c = let h : c.loop-tree.tree-index < length c.args.parts.now = omega arith in
    one_more c.loop-tree.items.items c.push.new.self.items _ c.args.parts.now c.loop-tree.tree-index c.in_ok-push.ensures.items h c.tree-item.is ∙ c.loop-tree.invariant
