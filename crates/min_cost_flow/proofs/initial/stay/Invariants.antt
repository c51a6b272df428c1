use Rattle.std.proofs.Common.{length}
use Rattle.min_cost_flow.proofs.Homes.{HomesBelow}
use Rattle.min_cost_flow.proofs.initial.stay.Given as goal

abbrev pub invariant-loop-g : goal.invariant-loop-g
invariant-loop-g l = HomesBelow l.groups (length l.initial.totals) l.g l.placed l.totals
