-- What counts of a book is a tally.
use Rattle.std.proofs.Common.{arith}
use Rattle.bucket_core.specs.Rule.{total_weight}
use Rattle.transport_core.proofs.Costs.{tally_of}
use Rattle.rollout.proofs.verification.verify_asked.Goals as goal

pub check-requires : goal.check-requires
check-requires g c =
    let posed = c.in_ok-problem.ensures in
    tally_of posed.inputs (total_weight c.in_ok-problem.problem.old) c.in_ok-problem.problem.counts.items posed.counted (omega (arith, posed.few))
