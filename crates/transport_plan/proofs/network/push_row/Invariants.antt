use Rattle.std.proofs.Common.{◌≡◌, ◌++◌, drop}
use Rattle.std.specs.List.{All}
use Rattle.std.specs.Map.{keys_of}
use Rattle.price_core.specs.Limits.{limits_view}
use Rattle.transport_plan.specs.Network.{price_row}
use Rattle.transport_plan.specs.Numbered.{IsPriced}
use Rattle.transport_plan.proofs.network.push_row.Given as goal

-- the rest makes the row
abbrev pub invariant-loop-new : goal.invariant-loop-new
invariant-loop-new l = record {
  row : (l.table.items ++ price_row l.prices (keys_of (limits_view (drop l.new-index l.limits))) l.old) ≡ (l.initial.table.items ++ price_row l.prices (keys_of (limits_view l.limits)) l.old);
  priced : All IsPriced l.table.items;
}
