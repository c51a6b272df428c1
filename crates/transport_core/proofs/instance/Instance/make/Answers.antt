use Rattle.std.proofs.Common.{◌≡◌, ℕ, sum_by, sum, sym, ap, ◌∙◌, zero-add, arith}
use Rattle.std.specs.List.{range_with_len, slice_index}
use Rattle.std.specs.Map.{keys_of}
use Rattle.std.proofs.lemmas.Option.{get_or_from_slice_get}
use Rattle.bucket_core.specs.Rule.{total_weight}
use Rattle.limits.specs.Limits.{point_inputs}
use Rattle.transport_core.specs.Groups.{rows_view}
use Rattle.transport_core.proofs.Grouped.{listed_groups, few_inputs}
use Rattle.transport_core.proofs.Inputs.{group_inputs, sum_places}
use Rattle.transport_core.proofs.Plans.{whole-sizes}
use Rattle.transport_core.proofs.instance.Instance.make.Goals as goal

pub groups-requires : goal.groups-requires
groups-requires c = c.requires.tally.whole

pub invariant_of-result : goal.invariant_of-result
invariant_of-result c =
    let old = c.args.old.now in
    let counts = c.args.counts.now in
    let load : ℕ → ℕ = slice_index counts in
    let tally = c.requires.tally in
    let groups = rows_view c.in_ok-groups.field-0.items in
    let sizes = c.in_ok-groups.ensures.loads in
    let whole = whole-sizes old load groups sizes in
    let places = sum_places 0 counts load (λ k count is. ap load (zero-add k) ∙ get_or_from_slice_get counts k count 0 is) in
    let at_points : sum_by load (range_with_len 0 (total_weight old)) ≡ sum counts = ap (λ n. sum_by load (range_with_len 0 n)) (sym tally.whole) ∙ places in
    record {
      limits = c.entries-limits.ensures.lawful;
      names = c.requires.names;
      rise = sizes.rise;
      sizes = sizes.some;
      listed = listed_groups old load groups sizes (keys_of c.args.totals.now) c.requires.listed;
      counts = few_inputs old load groups sizes point_inputs tally.small;
      inputs = omega (arith, group_inputs old load groups sizes, at_points, tally.few);
      some = omega (arith, whole, c.total.ensures.value, c.total.ensures.allowed.some);
      small = omega (arith, whole, c.requires.small);
      lows = omega (arith, whole, c.total.ensures.value, c.from-total.ensures, c.low_sum.ensures.value, c.if-total-low_sum.false);
      highs = omega (arith, whole, c.total.ensures.value, c.from-total.ensures, c.high_sum.ensures.value, c.if-high_sum-total.false);
    }
