use Rattle.std.proofs.Common.{◌≡◌, drop}
use Rattle.std.specs.List.{list_any, list_all}
use Rattle.std.specs.Map.{keys_of}
use Rattle.std.specs.Str.{bytes_eq}
use Rattle.bucket_core.specs.Rule.{names_view}
use Rattle.price_core.specs.Limits.{limits_view}
use Rattle.transport_core.proofs.cut.are_listed.Given as goal

-- the rest answers as the whole
abbrev pub invariant-loop-name : goal.invariant-loop-name
invariant-loop-name l =
    list_all (λ name. list_any (bytes_eq name) (keys_of (limits_view l.limits))) (names_view (drop l.name-index l.names)) ≡ list_all (λ name. list_any (bytes_eq name) (keys_of (limits_view l.limits))) (names_view l.names)
