use Rattle.std.proofs.Common.{◌≡◌, length, fold}
use Rattle.murmur_core.specs.Murmur.{blocks, tail, with_block}
use Rattle.murmur_core.proofs.murmur3.hash.Given as goal

abbrev pub invariant-loop-rest : goal.invariant-loop-rest
invariant-loop-rest l = record {
  folded : fold with_block l.h (blocks l.rest) ≡ fold with_block l.fn.seed (blocks l.bytes);
  same_tail : tail l.rest ≡ tail l.bytes;
}

abbrev pub decreases-loop-rest : goal.decreases-loop-rest
decreases-loop-rest l = length l.rest
