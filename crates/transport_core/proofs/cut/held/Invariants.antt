use Rattle.std.proofs.Common.{◌≡◌, ◌+◌, ◌*◌, ◌^◌, ◌≤◌, drop, sum_by}
use Rattle.std.specs.Prelude.{if◌then◌else◌}
use Rattle.bucket_core.specs.Rule.{names_view}
use Rattle.transport_core.specs.Deficient.{is_among}
use Rattle.transport_core.specs.Rows.{totals_view}
use Rattle.transport_core.proofs.cut.held.Given as goal

-- what is summed, with the rest, is the whole
abbrev pub invariant-loop-name : goal.invariant-loop-name
invariant-loop-name l = record {
  whole : l.held + sum_by (λ x. if is_among (names_view l.names) x.0 then x.1 else 0) (totals_view (drop l.name-index l.totals)) ≡ sum_by (λ x. if is_among (names_view l.names) x.0 then x.1 else 0) (totals_view l.totals);
  small : l.held ≤ l.name-index * 2 ^ 32;
}
