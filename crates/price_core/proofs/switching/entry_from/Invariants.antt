use Rattle.std.proofs.Common.{◌-◌, ◌≤◌}
use Rattle.bucket_core.specs.Rule.{entry_at}
use Rattle.price_core.proofs.switching.entry_from.Given as goal

-- the entry at hand is not after that of the point
abbrev pub invariant-loop-entry : goal.invariant-loop-entry
invariant-loop-entry l = l.entry ≤ entry_at l.rule l.point

abbrev pub decreases-loop-entry : goal.decreases-loop-entry
decreases-loop-entry l = entry_at l.rule l.point - l.entry
