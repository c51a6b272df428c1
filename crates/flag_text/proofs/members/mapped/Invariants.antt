use Rattle.std.proofs.Common.{◌≡◌}
use Rattle.flag_text.specs.Shape.{no_members}
use Rattle.flag_text.specs.View.{members_view}
use Rattle.flag_text.proofs.Placed.{entered}
use Rattle.flag_text.proofs.members.mapped.Given as goal

abbrev pub invariant-loop-name : goal.invariant-loop-name
invariant-loop-name l = members_view l.map.entries ≡ entered (members_view l.yielded) no_members
