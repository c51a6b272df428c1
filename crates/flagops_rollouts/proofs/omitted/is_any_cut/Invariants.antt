use Rattle.std.proofs.Common.{◌≡◌, drop}
use Rattle.flag_text.specs.View.{members_view}
use Rattle.flagops_rollouts.specs.Omitted.{is_any_cut}
use Rattle.flagops_rollouts.proofs.omitted.is_any_cut.Given as goal

abbrev pub invariant-loop-definition : goal.invariant-loop-definition
invariant-loop-definition l = is_any_cut (members_view (drop l.definition-index l.definitions)) ≡ is_any_cut (members_view l.definitions)
