use Rattle.std.proofs.Common.{◌-◌, ◌≤◌}
use Rattle.bucket_core.specs.Rule.{total_weight}
use Rattle.rule_switches.specs.Runs.{AreRuns, runs_view}
use Rattle.rule_switches.proofs.change.runs.Given as goal

-- the runs so far lead up to the point
abbrev pub invariant-loop-point : goal.invariant-loop-point
invariant-loop-point l = record {
  inside : l.point ≤ total_weight l.old;
  made : AreRuns l.old l.new l.counts 0 (runs_view l.runs.items) l.point;
}

abbrev pub decreases-loop-point : goal.decreases-loop-point
decreases-loop-point l = l.total - l.point
