use Rattle.std.proofs.Common.{◌≡◌, ◌+◌, ◌*◌, ◌^◌, ◌≤◌, drop, sum_by}
use Rattle.std.specs.Prelude.{if◌then◌else◌}
use Rattle.std.specs.List.{list_any}
use Rattle.bucket_core.specs.Rule.{names_view}
use Rattle.price_core.specs.Limits.{limits_view}
use Rattle.transport_core.specs.Deficient.{may_become}
use Rattle.transport_core.proofs.cut.room.Given as goal

-- what is summed, with the rest, is the whole
abbrev pub invariant-loop-limit : goal.invariant-loop-limit
invariant-loop-limit l = record {
  whole : l.room + sum_by (λ x. if list_any (λ from. may_become l.prices from x.0) (names_view l.names) then x.1.1 else 0) (limits_view (drop l.limit-index l.limits))
      ≡ sum_by (λ x. if list_any (λ from. may_become l.prices from x.0) (names_view l.names) then x.1.1 else 0) (limits_view l.limits);
  small : l.room ≤ l.limit-index * 2 ^ 32;
}
