use Rattle.std.proofs.Common.{arith}
use Rattle.bucket_core.proofs.Items.{weight_next}
use Rattle.bucket_core.proofs.weights.total_weight.Goals as goal

pub loop-weight-preserved : goal.loop-weight-preserved
loop-weight-preserved c =
    let l = c.loop-weight in
    let next = weight_next c.args.entries.now l.weight-index c.loop-weight-item.result (omega arith) c.loop-weight-item.is in
    record {
      whole = omega (arith, next, l.invariant.whole, c.from-sum.ensures);
      small = omega (arith, l.invariant.small, c.from-sum.ensures);
    }
