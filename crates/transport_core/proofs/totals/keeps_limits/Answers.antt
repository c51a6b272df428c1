use Rattle.std.proofs.Common.{◌<◌, ◌≤◌, ℕ, List, ap, sym, subst}
use Rattle.price_core.specs.Limits.{Limits, low_of, high_of, limits_view}
use Rattle.transport_core.specs.Refusals.{KeepsLimits, BreaksLimit}
use Rattle.transport_core.specs.Rows.{AreTotals, total_in, totals_view}
use Rattle.transport_core.proofs.NameTotals.{kept, broken_high, broken_low, either_way}
use Rattle.transport_core.proofs.totals.keeps_limits.Goals as goal

pub returns-then-not-keeps_high : goal.returns-then-not-keeps_high
returns-then-not-keeps_high c =
    let rule = c.args.rule.now in
    let same = ap totals_view c.as_slice.ensures.value in
    let totals = subst (λ ts. AreTotals rule ts) (sym same) c.in_ok-totals.ensures in
    let broken = broken_high rule (limits_view c.entries-limits.result.now) (totals_view c.as_slice.result.now) totals c.if-not-keeps_high.ensures in
    subst (λ (ls : Limits). (name : List ℕ) × BreaksLimit rule ls name) c.entries-limits.ensures.value broken

pub returns : goal.returns
returns c =
    let rule = c.args.rule.now in
    let limits = limits_view c.entries-limits.result.now in
    let totals = totals_view c.in_ok-totals.totals.items in
    let are = c.in_ok-totals.ensures in
    let first = ap totals_view c.as_slice.ensures.value in
    let second = ap totals_view c.as_slice-2.ensures.value in
    let Kept : Limits → Type 0 = λ ls. KeepsLimits rule ls in
    let Broken : Limits → Type 0 = λ ls. (name : List ℕ) × BreaksLimit rule ls name in
    either_way c.keeps_low.result c.keeps_low.ensures
    (λ low. subst Kept c.entries-limits.ensures.value (kept rule limits totals are (λ name. subst (λ ts. total_in ts name ≤ high_of limits name) first (c.if-not-keeps_high.ensures name)) (λ name. subst (λ ts. low_of limits name ≤ total_in ts name) second (low name))))
    (λ broken. subst Broken c.entries-limits.ensures.value (broken_low rule limits totals are (subst (λ ts. (name : List ℕ) × (total_in ts name < low_of limits name)) second broken)))
