-- The numbers of the groups are spent on their points, and what is dealt out has the assignment.
use Rattle.std.proofs.Common.{◌≡◌, ◌<◌, ◌*◌, ⊎_elim, ℕ, List, Bor, Some, true, length, sum, string_bytes, sym, ap, ◌∙◌, subst, arith}
use Rattle.std.specs.List.{All, slice_index}
use Rattle.std.specs.Map.{keys_of}
use Rattle.std.proofs.lemmas.Bool.{cases_eq}
use Rattle.std.proofs.lemmas.List.{length-map}
use Rattle.std.proofs.lemmas.Result.{IfOk-weaker}
use Rattle.exposures.specs.Counts.{counts_of}
use Rattle.bucket_core.specs.Rule.{Entries, points, names_at, names_view, total_weight}
use Rattle.transport_core.specs.Assignment.{HasAssignment, arc_flows, spends_all}
use Rattle.transport_core.specs.Groups.{AreSizesBy, GroupKey, group_at, group_by, row_view, rows_view}
use Rattle.transport_core.proofs.Costs.{counted_at}
use Rattle.transport_core.proofs.Plans.{whole-sizes}
use Rattle.transport_plan.specs.Dealing.{IsDealt}
use Rattle.transport_plan.proofs.Assigned.{group_within, group_points, has_assignment}
use Rattle.transport_plan.proofs.Names.{apart}
use Rattle.transport_plan.proofs.Numbers.{some_left}
use Rattle.transport_plan.proofs.Tallied.{no_key, spends_shape, spends_row, spends_sum}
use Rattle.transport_plan.proofs.spreading.spread_over.Goals as goal

pub groups_of-requires-clause-whole : goal.groups_of-requires-clause-whole
groups_of-requires-clause-whole c = c.requires.tally.whole

shape : (groups : List ((Bor (List ℕ) × ℕ) × ℕ)) (names : ℕ) (numbers : List ℕ) → spends_all (rows_view groups) names numbers ≡ true → length numbers ≡ length groups * names
shape groups names numbers spent = spends_shape (rows_view groups) names numbers spent ∙ ap (λ n. n * names) (length-map groups row_view)

whole : (old : Entries) (groups : List (GroupKey × ℕ)) (names : ℕ) (load : ℕ → ℕ) (numbers points : List ℕ) → AreSizesBy old load groups → spends_all groups names numbers ≡ true → length points ≡ total_weight old → sum numbers ≡ length points
whole old groups names load numbers points sizes spent many = spends_sum groups names numbers spent ∙ (whole-sizes old load groups sizes ∙ sym many)

pub deal-requires-clause-numbers : goal.deal-requires-clause-numbers
deal-requires-clause-numbers c =
    let groups = c.args.groups.now in
    let names : ℕ = length c.args.names.now in
    let points = c.in_ok-points in
    let within = group_within c.args.old.now (slice_index c.args.counts.now) (rows_view groups) c.requires.sizes points.points.items points.ensures.many points.ensures.grouped in
    record {
      shape = shape groups names c.args.numbers.items c.requires.spent;
      within = subst (λ n. All (λ g. g < n) points.points.items) (length-map groups row_view) within;
      rows = λ g below.
          let here : g < length (rows_view groups) = omega (arith, below, length-map groups row_view) in
          spends_row (rows_view groups) names c.args.numbers.items g (no_key, 0) c.requires.spent here
          ∙ group_points c.args.old.now (slice_index c.args.counts.now) (rows_view groups) c.requires.sizes points.points.items points.ensures.many points.ensures.grouped g (no_key, 0) here;
      whole = whole c.args.old.now (rows_view groups) names (slice_index c.args.counts.now) c.args.numbers.items points.points.items c.requires.sizes c.requires.spent points.ensures.many;
    }

-- no names have no numbers
some_names : (groups names : ℕ) (numbers : List ℕ) → length numbers ≡ groups * names → 0 < sum numbers → 0 < names
some_names groups names numbers shape some =
    ⊎_elim
    (λ (none : names ≡ 0). absurd (omega (arith, (some_left numbers some).1, shape, ap (λ n. groups * n) none)))
    (λ (not : names ≡ 0 → ⊥). omega (arith, not))
    (cases_eq names 0)

pub deal-requires-clause-some : goal.deal-requires-clause-some
deal-requires-clause-some c =
    let sum_is = whole c.args.old.now (rows_view c.args.groups.now) (length c.args.names.now) (slice_index c.args.counts.now) c.args.numbers.items c.in_ok-points.points.items c.requires.sizes c.requires.spent c.in_ok-points.ensures.many in
    let total : 0 < total_weight c.args.old.now = omega (arith, c.total-total.ensures.value, c.total-total.ensures.allowed.some) in
    some_names (length c.args.groups.now) (length c.args.names.now) c.args.numbers.items (shape c.args.groups.now (length c.args.names.now) c.args.numbers.items c.requires.spent) (omega (arith, sum_is, total, c.in_ok-points.ensures.many))

pub from_points-requires-clause-distinct : goal.from_points-requires-clause-distinct
from_points-requires-clause-distinct c = apart (names_view c.args.names.now) c.requires.rise

-- the group of a point is that of the inputs which so many are
group_same : (old : Entries) (inputs : List (List ℕ)) (counts : List ℕ) (p : ℕ) → counts ≡ counts_of inputs (total_weight old) → p < total_weight old → Some (group_by old (slice_index counts) p) ≡ Some (group_at old inputs p)
group_same old inputs counts p counted below = ap (λ n. Some (group_by old (λ _. n) p)) (counted_at inputs (total_weight old) counts p counted below)

pub returns-clause-assigned : goal.returns-clause-assigned
returns-clause-assigned c =
    let old = c.args.old.now in
    let groups = c.args.groups.now in
    let names = names_view c.args.names.now in
    let numbers = c.args.numbers.items in
    let items = c.in_ok-items.items.items in
    let placed = c.in_ok-points.points.items in
    let wide : length c.args.names.now ≡ length names = sym (length-map c.args.names.now string_bytes) in
    let by_groups : IsDealt (length (rows_view groups)) (length c.args.names.now) numbers placed items = subst (λ n. IsDealt n (length c.args.names.now) numbers placed items) (sym (length-map groups row_view)) c.in_ok-items.ensures.dealt in
    let dealt : IsDealt (length (rows_view groups)) (length names) numbers placed items = subst (λ n. IsDealt (length (rows_view groups)) n numbers placed items) wide by_groups in
    IfOk-weaker c.from_points.result (λ (r : Entries). points r ≡ names_at names c.as_slice.result.now) (λ (r : Entries). (inputs : List (List ℕ)) → c.args.counts.now ≡ counts_of inputs (total_weight old) → HasAssignment old r inputs (arc_flows (keys_of (rows_view groups)) names numbers))
    (λ r named inputs counted.
    has_assignment old inputs (rows_view groups) placed c.in_ok-points.ensures.many (λ p below. c.in_ok-points.ensures.grouped p below ∙ group_same old inputs c.args.counts.now p counted below) names numbers items r dealt c.in_ok-items.ensures.many (named ∙ ap (names_at names) c.as_slice.ensures.value))
    c.from_points.ensures.named
