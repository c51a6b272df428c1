-- The sums are those of the sorted rows, all of which are given.
use Rattle.std.proofs.Common.{◌≡◌, ℕ, List, ◌++◌, append-nil, sym, ap, ◌∙◌, subst, arith}
use Rattle.std.specs.Cmp.Lexicographic.{slice_cmp}
use Rattle.std.specs.Borrow.{Bor}
use Rattle.std.specs.List.Sorted.{IsStrictlySortedBy}
use Rattle.std.specs.Map.{keys_of}
use Rattle.std.specs.Ordering.{nat_cmp}
use Rattle.price_core.proofs.Inserts.{rise_seen}
use Rattle.transport_core.specs.Rows.{totals_view, whole_amount}
use Rattle.transport_core.proofs.Joined.{passed}
use Rattle.transport_core.proofs.NameTotals.{Lent, AreAll, row_fits, row_added}
use Rattle.transport_core.proofs.totals.by_name.Goals as goal

pub loop-name-init : goal.loop-name-init
loop-name-init c = (_, _, λ test. let none : passed test (totals_view c.new-sorted.result.entries) ≡ 0 = ap (λ (es : List Lent). passed test (totals_view es)) c.new-sorted.ensures.empty in omega (arith, none))

pub add_points-requires : goal.add_points-requires
add_points-requires c =
    let l = c.loop-name in
    let all = subst (λ es. AreAll l.sorted.entries es c.into_iter-name-iterator.result) c.in-Some.ensures.steps l.invariant.2 in
    omega (arith, row_fits l.sorted.entries (c.in-Some.name, c.in-Some.total) c.next.new.self c.into_iter-name-iterator.result all, ap (λ (es : List Lent). whole_amount es) c.into_iter-name-iterator.ensures.into_iter_gives.0, c.requires)

pub loop-name-preserved : goal.loop-name-preserved
loop-name-preserved c =
    let l = c.loop-name in
    let all = subst (λ es. AreAll l.sorted.entries es c.into_iter-name-iterator.result) c.in-Some.ensures.steps l.invariant.2 in
    (_, _, row_added l.sorted.entries c.add_points.new.totals.entries (c.in-Some.name, c.in-Some.total) c.next.new.self c.into_iter-name-iterator.result all c.in_ok-add_points.ensures)

pub returns-clause-rise : goal.returns-clause-rise
returns-clause-rise c =
    let l = c.loop-total in
    let given = c.into_iter-total-iterator.ensures.into_iter_gives in
    let whole : l.totals.items ≡ c.loop-name.sorted.entries = sym (append-nil l.totals.items) ∙ (ap (λ es. l.totals.items ++ es) (sym c.in-None-total.ensures.steps.0) ∙ (l.invariant.2 ∙ given.0)) in
    subst (λ rows. IsStrictlySortedBy (slice_cmp nat_cmp) (keys_of (totals_view rows))) (sym whole) (rise_seen (λ (b : Bor (List ℕ)). b.now) (slice_cmp nat_cmp) c.loop-name.sorted.entries given.5)

pub returns-clause-sums : goal.returns-clause-sums
returns-clause-sums c = λ test.
    let l = c.loop-total in
    let given = c.into_iter-total-iterator.ensures.into_iter_gives in
    let whole : l.totals.items ≡ c.loop-name.sorted.entries = sym (append-nil l.totals.items) ∙ (ap (λ es. l.totals.items ++ es) (sym c.in-None-total.ensures.steps.0) ∙ (l.invariant.2 ∙ given.0)) in
    let sum : List Lent → ℕ = λ rows. passed test (totals_view rows) in
    let none : sum c.loop-name.name-iterator ≡ 0 = ap sum c.in-None.ensures.steps.0 in
    let all : sum c.into_iter-name-iterator.result ≡ sum c.args.sums.entries = ap sum c.into_iter-name-iterator.ensures.into_iter_gives.0 in
    let sorted : sum l.totals.items ≡ sum c.loop-name.sorted.entries = ap sum whole in
    omega (arith, sorted, c.loop-name.invariant.2 test, none, all)
