use Rattle.std.proofs.Common.{arith}
use Rattle.rule_text.proofs.Lending.{weight_next}
use Rattle.rule_text.proofs.lent.total_of.Goals as goal

pub loop-weight-preserved : goal.loop-weight-preserved
loop-weight-preserved c =
    let l = c.loop-weight in
    let next = weight_next c.args.entries.now l.weight-index (omega arith) in
    record {
      whole = omega (arith, next, l.invariant.whole, c.from-sum.ensures);
      small = omega (arith, l.invariant.small, c.from-sum.ensures);
    }
