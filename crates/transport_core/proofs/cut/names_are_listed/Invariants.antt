use Rattle.std.proofs.Common.{◌≡◌}
use Rattle.std.specs.List.{list_any, list_all}
use Rattle.std.specs.Map.{keys_of}
use Rattle.std.specs.Str.{bytes_eq}
use Rattle.price_core.specs.Limits.{limits_view}
use Rattle.transport_core.proofs.cut.names_are_listed.Given as goal

-- the rest answers as the whole
abbrev pub invariant-loop-name : goal.invariant-loop-name
invariant-loop-name l = record {
  can : (goal.iterator-loop-name).can_next l.name-iterator;
  ends_soon : (goal.iterator-loop-name).is_finite l.name-iterator;
  rest : list_all (λ name. list_any (bytes_eq name) (keys_of (limits_view l.limits))) (keys_of l.name-iterator) ≡ list_all (λ name. list_any (bytes_eq name) (keys_of (limits_view l.limits))) (keys_of l.rule);
}
