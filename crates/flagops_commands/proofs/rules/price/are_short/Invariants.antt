use Rattle.std.proofs.Common.{◌≡◌, drop}
use Rattle.flagops_commands.specs.Price.{are_short}
use Rattle.flagops_commands.proofs.rules.price.are_short.Given as goal

abbrev pub invariant-loop-key : goal.invariant-loop-key
invariant-loop-key l = are_short l.keys ≡ are_short (drop l.key-index l.keys)
