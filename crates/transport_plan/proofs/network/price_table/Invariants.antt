use Rattle.std.proofs.Common.{◌≡◌, ◌++◌, drop}
use Rattle.std.specs.List.{All, flat_map}
use Rattle.std.specs.Map.{keys_of}
use Rattle.price_core.specs.Limits.{limits_view}
use Rattle.transport_plan.specs.Network.{price_row}
use Rattle.transport_plan.specs.Numbered.{IsPriced}
use Rattle.transport_plan.proofs.network.price_table.Given as goal

-- the rest makes the whole
abbrev pub invariant-loop-old : goal.invariant-loop-old
invariant-loop-old l = record {
  table : (l.table.items ++ flat_map (price_row l.prices (keys_of (limits_view l.limits))) (keys_of (limits_view (drop l.old-index l.limits)))) ≡ flat_map (price_row l.prices (keys_of (limits_view l.limits))) (keys_of (limits_view l.limits));
  priced : All IsPriced l.table.items;
}
