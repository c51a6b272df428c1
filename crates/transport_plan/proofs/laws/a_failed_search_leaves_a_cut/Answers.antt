use Rattle.transport_plan.proofs.DeficientCuts.{stuck_is_over, unmet_is_under}
use Rattle.transport_plan.proofs.laws.a_failed_search_leaves_a_cut.Goals as goal

pub returns-clause-over : goal.returns-clause-over
returns-clause-over c p numbers inside set old inputs lawful sizes stuck = stuck_is_over p numbers inside set old inputs lawful sizes stuck

pub returns-clause-under : goal.returns-clause-under
returns-clause-under c p numbers set old inputs sizes unmet = unmet_is_under p numbers set old inputs sizes unmet
