use Rattle.std.proofs.Common.{◌≡◌, ◌<◌, length}
use Rattle.std.specs.List.{All}
use Rattle.transport_plan.proofs.dealing.bases_of.Given as goal

abbrev pub invariant-loop-group : goal.invariant-loop-group
invariant-loop-group l = record { many : length l.bases.items ≡ l.group; named : All (λ w. w < l.names) l.bases.items }
