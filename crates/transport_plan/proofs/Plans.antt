-- A certificate that proves what an assignment costs certifies each rule that has it.
use Rattle.std.proofs.Common.{ℕ, ◌<◌, List, arith}
use Rattle.bucket_core.specs.Rule.{Entries, total_weight}
use Rattle.transport_core.specs.Assignment.{HasAssignment, IsProved, flows_of}
use Rattle.transport_core.specs.Certificate.{DualPrices, IsCertified}
use Rattle.transport_core.specs.Fits.{IsLeast}
use Rattle.transport_core.specs.Groups.{AreSizes}
use Rattle.transport_core.specs.Instance.{TransportProblem, IsProblem}
use Rattle.transport_core.proofs.Plans.{certified_by, least_by, whole-groups}

pub plan_of : (p : TransportProblem) (numbers : List ℕ) (c : DualPrices) → IsProblem p → IsProved p numbers c → (old new : Entries) (inputs : List (List ℕ)) → AreSizes old inputs p.groups → HasAssignment old new inputs (flows_of p numbers)
    → IsCertified old new p.limits p.pricing inputs c × IsLeast old new p.limits p.pricing inputs
plan_of p numbers c lawful proved old new inputs sizes has =
    let some : 0 < total_weight old = omega (arith, whole-groups old inputs p.groups sizes, lawful.some) in
    (certified_by p numbers c lawful.limits proved old new inputs sizes has some, least_by p numbers c lawful.limits proved old new inputs sizes has some)
