use Rattle.std.proofs.Common.{◌≡◌, drop, map, string_bytes}
use Rattle.std.specs.List.{list_all}
use Rattle.std.specs.Map.{keys_of}
use Rattle.price_core.specs.Pricing.{entries_view}
use Rattle.price_core.specs.Request.{pair_is_known}
use Rattle.price_core.proofs.request.changes_are_known.Given as goal

abbrev pub invariant-loop-change : goal.invariant-loop-change
invariant-loop-change g l =
    list_all (pair_is_known (map string_bytes l.names)) (keys_of (entries_view (drop l.change-index l.entries)))
    ≡ list_all (pair_is_known (map string_bytes l.names)) (keys_of (entries_view l.entries))
