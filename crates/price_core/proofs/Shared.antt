-- Which values several threads may read at once.
use denote.Ref.{NamedLft}
use denote.Param.Send.{IsSync, sendable}
use Rattle.std.proofs.Crossing.{crosses}
use Rattle.std.proofs.MapsCrossing.{crosses as maps}
use Rattle.bucket_core.specs.contracts.rule.Rule as Rule
use Rattle.price_core.specs.contracts.prices.Prices as Prices
use Rattle.price_core.specs.contracts.switching.Switching as Switching

pub Rule-sync : IsSync Rule.the_row
Rule-sync = search (sendable, crosses, maps) depth 40

pub Prices-sync : IsSync Prices.the_row
Prices-sync = search (sendable, crosses, maps) depth 40

pub Switching-sync : (κ : NamedLft) → IsSync (Switching.the_row κ)
Switching-sync κ = search (sendable, crosses, maps, Rule-sync, Prices-sync) depth 40
