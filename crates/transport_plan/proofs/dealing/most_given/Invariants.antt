use Rattle.std.proofs.Common.{◌≤◌, ◌<◌, ℕ, length, get_or}
use Rattle.transport_plan.proofs.dealing.most_given.Given as goal

abbrev pub invariant-loop-name : goal.invariant-loop-name
invariant-loop-name l = record {
  within : l.most < length l.row;
  most : (w : ℕ) → w < l.name → get_or l.row w 0 ≤ get_or l.row l.most 0;
}
