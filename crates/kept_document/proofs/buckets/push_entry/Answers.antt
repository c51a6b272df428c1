use Rattle.std.proofs.Common.{ap, ◌∙◌}
use Rattle.flag_text.specs.Shape.{is_whole}
use Rattle.kept_document.proofs.Texts.{pair_is_whole}
use Rattle.kept_document.proofs.buckets.push_entry.Goals as goal

pub print_tree-requires : goal.print_tree-requires
print_tree-requires c = ap is_whole c.in_ok-tree.ensures ∙ pair_is_whole c.args.name.now c.args.weight c.requires
