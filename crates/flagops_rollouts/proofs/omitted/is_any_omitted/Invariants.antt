use Rattle.std.proofs.Common.{◌≡◌, drop}
use Rattle.flag_text.specs.View.{members_view}
use Rattle.flagops_rollouts.specs.Omitted.{is_any_omitted}
use Rattle.flagops_rollouts.proofs.omitted.is_any_omitted.Given as goal

abbrev pub invariant-loop-name : goal.invariant-loop-name
invariant-loop-name l = is_any_omitted (members_view (drop l.name-index l.members)) ≡ is_any_omitted (members_view l.members)
