use Rattle.std.proofs.Common.{◌≡◌}
use Rattle.rule_switches.proofs.Tallied.{IsBefore}
use Rattle.rule_switches.proofs.tally.tallied.Given as goal

-- the points before one were counted
abbrev pub invariant-loop-count : goal.invariant-loop-count
invariant-loop-count l = (l.point ≡ l.count-index) × IsBefore l.before l.after l.total l.counts l.count-index l.counting
