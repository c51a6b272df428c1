use Rattle.std.proofs.Common.{ap, map, ◌∙◌}
use Rattle.flag_text.specs.Shape.{is_whole}
use Rattle.flagops_checks.specs.Judged.{judged_view}
use Rattle.flagops_checks.proofs.Printed.{whole}
use Rattle.flagops_checks.proofs.objects.push_object.Goals as goal

pub print_tree-requires : goal.print_tree-requires
print_tree-requires c = ap is_whole c.in_ok-object.ensures ∙ whole c.args.path.now (map judged_view c.args.flags.now)
