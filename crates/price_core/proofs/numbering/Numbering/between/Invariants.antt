use Rattle.std.proofs.Common.{◌≤◌, length, drop}
use Rattle.price_core.specs.Numbering.{AreBetween}
use Rattle.price_core.specs.Pricing.{entries_view}
use Rattle.price_core.proofs.numbering.Numbering.between.Given as goal

abbrev pub invariant-loop-left : goal.invariant-loop-left
invariant-loop-left g l = record {
  inside : l.left ≤ length l.entries;
  found : AreBetween l.self (entries_view (drop l.left l.entries)) l.by_numbers;
}

abbrev pub decreases-loop-left : goal.decreases-loop-left
decreases-loop-left g l = l.left
