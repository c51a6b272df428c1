use Rattle.std.proofs.Common.{◌≡◌, ◌≤◌, map, take}
use Rattle.logic_eval.specs.Views.{reach_view}
use Rattle.book_share.specs.Asked.{long_inputs}
use Rattle.book_share.proofs.driving.long_in.Given as goal

abbrev pub invariant-loop-reach : goal.invariant-loop-reach
invariant-loop-reach l = (l.long ≤ l.reach-index) × (l.long ≡ long_inputs (map reach_view (take l.reach-index l.reached)))
