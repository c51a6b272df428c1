-- the runs, sorted and joined
use Rattle.std.proofs.Common.{◌≡◌, ◌<◌, ◌^◌, ℕ, List, Vec, Bor, Global, sym, ap, ◌∙◌, subst, arith}
use Rattle.std.proofs.lemmas.List.Sorted.{sum_by-IsPermutation}
use Rattle.std.proofs.lemmas.Result.{IfOk-weaker}
use Rattle.std.specs.List.{slice_index}
use Rattle.exposures.specs.Counts.{counts_of}
use Rattle.bucket_core.specs.Rule.{total_weight}
use Rattle.transport_core.specs.Dual.{inputs_at}
use Rattle.transport_core.specs.Groups.{AreSizes, AreSizesBy, rows_view}
use Rattle.transport_core.specs.Rows.{whole_amount, joined}
use Rattle.transport_core.proofs.Costs.{counted_at}
use Rattle.transport_core.proofs.Placed.{sizes-joined, same_key, whole-view, whole-joined}
use Rattle.transport_core.proofs.Tallied.{sizes_alike}
use Rattle.transport_core.proofs.grouping.groups.Goals as goal

abbrev Row : Type 0
Row = (Bor (List ℕ) × ℕ) × ℕ

pub joined-requires : goal.joined-requires
joined-requires c =
    let rows = c.in_ok-rows.rows.items in
    let same = sum_by-IsPermutation (λ (r : Row). r.1) rows c.sort_unstable.new.self.items c.sort_unstable.ensures.permutation in
    omega (arith, ap whole_amount c.as_slice.ensures.value, same, whole-view rows, c.in_ok-rows.ensures.whole, c.total-total.ensures.value, c.total-total.ensures.allowed.small)

pub returns-clause-loads : goal.returns-clause-loads
returns-clause-loads c =
    let rule = c.args.rule.now in
    let load = slice_index c.args.counts.now in
    let rows = c.in_ok-rows.rows.items in
    let sorted = c.sort_unstable.new.self.items in
    IfOk-weaker c.joined.result (λ (v : Vec Row Global). v.items ≡ joined same_key c.as_slice.result.now) (λ (v : Vec Row Global). AreSizesBy rule load (rows_view v.items))
    (λ v is.
    let out : v.items ≡ joined same_key sorted = is ∙ ap (joined same_key) c.as_slice.ensures.value in
    let sizes = sizes-joined rule load rows sorted c.in_ok-rows.ensures c.sort_unstable.ensures.permutation c.sort_unstable.ensures.sorted in
    subst (λ (rs : List Row). AreSizesBy rule load (rows_view rs)) (sym out) sizes)
    c.joined.ensures

pub returns-clause-sizes : goal.returns-clause-sizes
returns-clause-sizes c =
    let rule = c.args.rule.now in
    let counts = c.args.counts.now in
    let total = total_weight rule in
    IfOk-weaker c.joined.result (λ (v : Vec Row Global). AreSizesBy rule (slice_index counts) (rows_view v.items))
    (λ (v : Vec Row Global). (inputs : List (List ℕ)) → counts ≡ counts_of inputs total → AreSizes rule inputs (rows_view v.items))
    (λ v sizes inputs counted. sizes_alike rule (slice_index counts) (inputs_at total inputs) (rows_view v.items) (λ p below. counted_at inputs total counts p counted below) sizes)
    (returns-clause-loads c)

pub returns-clause-few : goal.returns-clause-few
returns-clause-few c =
    let sorted = c.sort_unstable.new.self.items in
    let rows = c.in_ok-rows.rows.items in
    IfOk-weaker c.joined.result (λ (v : Vec Row Global). v.items ≡ joined same_key c.as_slice.result.now) (λ (v : Vec Row Global). whole_amount v.items < 2 ^ 32)
    (λ v is.
    let whole = ap whole_amount (is ∙ ap (joined same_key) c.as_slice.ensures.value) ∙ whole-joined rows sorted c.sort_unstable.ensures.permutation in
    omega (arith, whole, c.in_ok-rows.ensures.whole, c.total-total.ensures.value, c.total-total.ensures.allowed.small))
    c.joined.ensures
