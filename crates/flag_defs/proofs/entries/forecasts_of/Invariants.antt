use Rattle.std.proofs.Common.{take}
use Rattle.flag_text.specs.View.{members_view}
use Rattle.flag_defs.specs.Foreseen.{AllForesee}
use Rattle.flag_defs.proofs.entries.forecasts_of.Given as goal

abbrev pub invariant-loop-definition : goal.invariant-loop-definition
invariant-loop-definition l = AllForesee (members_view l.evaluators) (members_view (take l.definition-index l.definitions)) l.forecasts.items
