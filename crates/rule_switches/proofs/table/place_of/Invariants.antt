use Rattle.std.proofs.Common.{◌≢◌, ◌<◌, ℕ}
use Rattle.std.specs.Map.{keys_of}
use Rattle.price_core.specs.Limits.{limits_view}
use Rattle.rule_switches.specs.Table.{name_of}
use Rattle.rule_switches.proofs.table.place_of.Given as goal

-- no name before has the text
abbrev pub invariant-loop-i : goal.invariant-loop-i
invariant-loop-i l = (k : ℕ) → k < l.i → name_of (keys_of (limits_view l.names)) k ≢ l.name
