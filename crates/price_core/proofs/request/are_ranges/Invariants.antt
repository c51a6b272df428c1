use Rattle.std.proofs.Common.{◌≡◌, drop}
use Rattle.std.specs.List.{list_all}
use Rattle.price_core.specs.Limits.{limits_view}
use Rattle.price_core.specs.Request.{is_range}
use Rattle.price_core.proofs.request.are_ranges.Given as goal

abbrev pub invariant-loop-limit : goal.invariant-loop-limit
invariant-loop-limit l = list_all is_range (limits_view (drop l.limit-index l.totals)) ≡ list_all is_range (limits_view l.totals)
