use Rattle.std.proofs.Common.{◌≡◌, drop}
use Rattle.flag_text.specs.View.{members_view}
use Rattle.flagops_rollouts.specs.Omitted.{has_other}
use Rattle.flagops_rollouts.proofs.omitted.has_other.Given as goal

abbrev pub invariant-loop-name : goal.invariant-loop-name
invariant-loop-name l = has_other (members_view (drop l.name-index l.members)) ≡ has_other (members_view l.members)
