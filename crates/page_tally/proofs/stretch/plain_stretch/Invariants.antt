use Rattle.std.proofs.Common.{◌<◌, length}
use Rattle.page_tally.specs.Stretch.{IsStretchOf}
use Rattle.page_tally.proofs.stretch.plain_stretch.Given as goal

abbrev pub invariant-loop-stretch : goal.invariant-loop-stretch
invariant-loop-stretch g l = record {
  stretch : IsStretchOf l.bytes l.key l.stretch;
  some : 0 < l.size;
}

abbrev pub decreases-loop-stretch : goal.decreases-loop-stretch
decreases-loop-stretch g l = length l.stretch.rest.now
