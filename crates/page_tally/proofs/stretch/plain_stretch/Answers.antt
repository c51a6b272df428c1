use Rattle.std.proofs.Common.{◌<◌, arith}
use Rattle.page_tally.proofs.Lacking.{stretch_then}
use Rattle.page_tally.proofs.stretch.plain_stretch.Goals as goal

pub loop-stretch-preserved : goal.loop-stretch-preserved
loop-stretch-preserved g c =
    let had = c.loop-stretch in
    let size : 0 < c.saturating_mul-size.result = omega (arith, c.saturating_mul-size.ensures, had.invariant.some) in
    record {
      stretch = stretch_then c.args.bytes.now c.args.key.now had.stretch c.in_parts-stretch.result had.invariant.stretch c.loop-stretch-test.true c.in_parts-stretch.ensures;
      some = size;
    }

pub returns-then-stretch-stop : goal.returns-then-stretch-stop
returns-then-stretch-stop g c =
    let had = c.loop-stretch in
    stretch_then c.args.bytes.now c.args.key.now had.stretch c.in_parts-stretch.result had.invariant.stretch c.loop-stretch-test.true c.in_parts-stretch.ensures
