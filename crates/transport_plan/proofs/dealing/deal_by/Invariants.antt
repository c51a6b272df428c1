use Rattle.std.proofs.Common.{◌≡◌, ◌≤◌, ◌-◌, length}
use Rattle.transport_plan.proofs.Dealt.{Deals}
use Rattle.transport_plan.proofs.dealing.deal_by.Given as goal

abbrev pub invariant-loop-start : goal.invariant-loop-start
invariant-loop-start l = record {
  deals : Deals (length l.bases) l.names l.fn.left l.fn.points l.left l.start l.points;
  thresholds : length l.thresholds ≡ length l.bases;
  few : l.seen ≤ l.start;
}

abbrev pub decreases-loop-start : goal.decreases-loop-start
decreases-loop-start l = length l.points - l.start
