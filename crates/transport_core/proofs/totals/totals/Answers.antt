use Rattle.std.proofs.Common.{◌≡◌, ℕ, List, Bool, Result, Ok, Err, IfOk, arith}
use Rattle.std.specs.Cmp.Lexicographic.{slice_cmp}
use Rattle.std.specs.List.Sorted.{IsStrictlySortedBy}
use Rattle.std.specs.Map.{keys_of}
use Rattle.std.specs.Ordering.{nat_cmp}
use Rattle.transport_core.specs.Rows.{AreTotals, totals_view}
use Rattle.transport_core.proofs.Joined.{passed}
use Rattle.transport_core.proofs.NameTotals.{sums_all, sums_fit, sums_more, sums_none, totals_summed}
use Rattle.transport_core.proofs.totals.totals.Goals as goal

pub loop-name-init : goal.loop-name-init
loop-name-init c =
    rw (c.into_iter-name-iterator.ensures.into_iter_gives, c.entries-name-items.ensures.value) (record { can = tt; ends_soon = tt; sums = sums_none c.new-sums.result.entries c.args.rule.now c.new-sums.ensures.empty })

pub overflow_cast-weight : goal.overflow_cast-weight
overflow_cast-weight c =
    let l = c.loop-name in
    omega (arith, sums_fit l.sums.entries c.args.rule.now l.name-iterator c.next.new.self (c.in-Some.name.now, c.in-Some.weight) c.in-Some.ensures.steps l.invariant.sums, c.total-total.ensures.value, c.total-total.ensures.allowed.small)

pub count_points-requires : goal.count_points-requires
count_points-requires c =
    let l = c.loop-name in
    omega (arith, sums_fit l.sums.entries c.args.rule.now l.name-iterator c.next.new.self (c.in-Some.name.now, c.in-Some.weight) c.in-Some.ensures.steps l.invariant.sums, c.total-total.ensures.value, c.total-total.ensures.allowed.small)

pub loop-name-preserved : goal.loop-name-preserved
loop-name-preserved c =
    let l = c.loop-name in record {
      can = tt;
      ends_soon = tt;
      sums = sums_more l.sums.entries c.count_points.new.sums.entries c.args.rule.now l.name-iterator c.next.new.self (c.in-Some.name.now, c.in-Some.weight) c.in-Some.ensures.steps l.invariant.sums c.in_ok-count_points.ensures;
    }

pub by_name-requires : goal.by_name-requires
by_name-requires c =
    let l = c.loop-name in
    omega (arith, sums_all l.sums.entries c.args.rule.now l.name-iterator c.in-None.ensures.steps.0 l.invariant.sums, c.total-total.ensures.value, c.total-total.ensures.allowed.small)

both : {X E : Type 0} (r : Result X E) (P Q R : X → Type 0) → ((x : X) → P x → Q x → R x) → IfOk r P → IfOk r Q → IfOk r R
both (Ok x) P Q R f p q = f x p q
both (Err e) P Q R f p q = p

pub returns : goal.returns
returns c =
    let l = c.loop-name in
    both c.by_name.result
    (λ v. IsStrictlySortedBy (slice_cmp nat_cmp) (keys_of (totals_view v.items)))
    (λ v. (test : List ℕ → Bool) → passed test (totals_view v.items) ≡ passed test (totals_view l.sums.entries))
    (λ v. AreTotals c.args.rule.now (totals_view v.items))
    (λ v. totals_summed c.args.rule.now l.sums.entries v.items l.name-iterator c.in-None.ensures.steps.0 l.invariant.sums)
    c.by_name.ensures.rise c.by_name.ensures.sums
