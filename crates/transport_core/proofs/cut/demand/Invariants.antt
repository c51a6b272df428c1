use Rattle.std.proofs.Common.{◌≡◌, ◌+◌, ◌*◌, ◌^◌, ◌≤◌, drop, sum_by}
use Rattle.std.specs.Prelude.{if◌then◌else◌}
use Rattle.bucket_core.specs.Rule.{names_view}
use Rattle.price_core.specs.Limits.{limits_view}
use Rattle.transport_core.specs.Deficient.{is_among}
use Rattle.transport_core.proofs.cut.demand.Given as goal

-- what is summed, with the rest, is the whole
abbrev pub invariant-loop-limit : goal.invariant-loop-limit
invariant-loop-limit l = record {
  whole : l.demand + sum_by (λ x. if is_among (names_view l.names) x.0 then x.1.0 else 0) (limits_view (drop l.limit-index l.limits)) ≡ sum_by (λ x. if is_among (names_view l.names) x.0 then x.1.0 else 0) (limits_view l.limits);
  small : l.demand ≤ l.limit-index * 2 ^ 32;
}
