use Rattle.std.proofs.Common.{◌≡◌, ◌+◌, ◌*◌, ◌^◌, ◌≤◌, ◌||◌, drop, sum_by}
use Rattle.std.specs.Prelude.{if◌then◌else◌}
use Rattle.std.specs.List.{list_any}
use Rattle.bucket_core.specs.Rule.{names_view}
use Rattle.transport_core.specs.Deficient.{is_among, may_become}
use Rattle.transport_core.specs.Rows.{totals_view}
use Rattle.transport_core.proofs.cut.reach.Given as goal

-- what is summed, with the rest, is the whole
abbrev pub invariant-loop-name : goal.invariant-loop-name
invariant-loop-name l = record {
  whole : l.reach + sum_by (λ x. if is_among (names_view l.names) x.0 || list_any (may_become l.prices x.0) (names_view l.names) then x.1 else 0) (totals_view (drop l.name-index l.totals))
      ≡ sum_by (λ x. if is_among (names_view l.names) x.0 || list_any (may_become l.prices x.0) (names_view l.names) then x.1 else 0) (totals_view l.totals);
  small : l.reach ≤ l.name-index * 2 ^ 32;
}
