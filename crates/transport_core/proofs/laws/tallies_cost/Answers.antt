use Rattle.std.proofs.Common.{refl}
use Rattle.exposures.specs.Counts.{counts_of}
use Rattle.bucket_core.specs.Rule.{total_weight}
use Rattle.transport_core.proofs.Costs.{cost-tally}
use Rattle.transport_core.proofs.laws.tallies_cost.Goals as goal

pub returns : goal.returns
returns c = λ old new pricing inputs some weight. cost-tally old new inputs (counts_of inputs (total_weight old)) pricing some weight refl
