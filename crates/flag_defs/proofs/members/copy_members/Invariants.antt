use Rattle.std.proofs.Common.{◌≡◌, take, map}
use Rattle.flag_text.proofs.Views.{named_view}
use Rattle.flag_defs.proofs.members.copy_members.Given as goal

abbrev pub invariant-loop-name : goal.invariant-loop-name
invariant-loop-name l = map named_view l.copies.items ≡ map named_view (take l.name-index l.members)
