use Rattle.std.proofs.Common.{◌≡◌, ◌≤◌, ◌+◌, drop}
use Rattle.std.specs.Prelude.{sum}
use Rattle.limits.specs.Limits.{tally_inputs}
use Rattle.flagops_rollouts.proofs.by_hand.sum_within.Given as goal

abbrev pub invariant-loop-count : goal.invariant-loop-count
invariant-loop-count l = record {
  small : l.all ≤ tally_inputs;
  left : l.all + sum (drop l.count-index l.counts) ≡ sum l.counts;
}
