use Rattle.std.proofs.Common.{length}
use Rattle.page_tally.specs.Stretch.{IsStretchOf}
use Rattle.page_tally.proofs.stretch.alone.Given as goal

abbrev pub invariant-loop-stretch : goal.invariant-loop-stretch
invariant-loop-stretch l = IsStretchOf l.bytes l.key l.stretch

abbrev pub decreases-loop-stretch : goal.decreases-loop-stretch
decreases-loop-stretch l = length l.stretch.rest.now
