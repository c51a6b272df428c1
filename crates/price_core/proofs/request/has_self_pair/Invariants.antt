use Rattle.std.proofs.Common.{◌≡◌, drop}
use Rattle.std.specs.List.{list_any}
use Rattle.std.specs.Map.{keys_of}
use Rattle.price_core.specs.Pricing.{entries_view}
use Rattle.price_core.specs.Request.{is_self_pair}
use Rattle.price_core.proofs.request.has_self_pair.Given as goal

abbrev pub invariant-loop-change : goal.invariant-loop-change
invariant-loop-change g l = list_any is_self_pair (keys_of (entries_view (drop l.change-index l.entries))) ≡ list_any is_self_pair (keys_of (entries_view l.entries))
