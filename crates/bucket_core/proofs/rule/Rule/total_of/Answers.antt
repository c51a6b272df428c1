use Rattle.std.proofs.Common.{arith}
use Rattle.bucket_core.proofs.rule.Rule.total_of.Goals as goal

pub weight_of-requires : goal.weight_of-requires
weight_of-requires c =
    rw (c.of.ensures, c.deref.ensures.value, c.deref-2.ensures.value) (omega (arith, c.self.invariant.sum, c.self.invariant.allowed.small))
