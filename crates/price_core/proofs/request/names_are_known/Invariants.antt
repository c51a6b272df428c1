use Rattle.std.proofs.Common.{◌≡◌, drop, map, string_bytes}
use Rattle.std.specs.List.{list_all}
use Rattle.std.specs.Map.{keys_of}
use Rattle.price_core.specs.Limits.{limits_view}
use Rattle.price_core.specs.Request.{is_known}
use Rattle.price_core.proofs.request.names_are_known.Given as goal

abbrev pub invariant-loop-limit : goal.invariant-loop-limit
invariant-loop-limit l =
    list_all (is_known (map string_bytes l.names)) (keys_of (limits_view (drop l.limit-index l.asked)))
    ≡ list_all (is_known (map string_bytes l.names)) (keys_of (limits_view l.asked))
