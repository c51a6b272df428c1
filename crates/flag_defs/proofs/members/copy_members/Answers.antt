use Rattle.std.proofs.Common.{map, ap, ◌∙◌, arith}
use Rattle.std.proofs.lemmas.List.{take_all}
use Rattle.flag_text.proofs.Views.{named_view, members_view-same}
use Rattle.flag_defs.proofs.members.copy_members.Goals as goal

pub returns : goal.returns
returns c = members_view-same _ _ (c.loop-name.invariant ∙ ap (map named_view) (take_all c.loop-name.name-index c.args.members.now (omega arith)))
