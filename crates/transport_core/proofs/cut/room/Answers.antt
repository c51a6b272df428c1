use Rattle.std.proofs.Common.{◌≡◌, ◌+◌, ℕ, List, Bool, cond, sum_by, string_bytes, drop, sym, ap, ◌∙◌, arith}
use Rattle.std.proofs.lemmas.Bool.{cond-true, cond-false}
use Rattle.std.proofs.lemmas.List.Sums.{sum_by-cons}
use Rattle.std.specs.List.{list_any}
use Rattle.bucket_core.specs.Rule.{names_view}
use Rattle.price_core.specs.Limits.{limit_view, limits_view}
use Rattle.transport_core.specs.Deficient.{may_become}
use Rattle.transport_core.proofs.Ranges.{from_here}
use Rattle.transport_core.proofs.cut.room.Goals as goal
use Rattle.transport_core.proofs.cut.room.Goals.{then-is_reached, else-is_reached}

pub loop-limit-preserved : goal.loop-limit-preserved
loop-limit-preserved c =
    let test : List ℕ → Bool = λ n. list_any (λ from. may_become c.args.prices.now from n) (names_view c.args.names.now) in
    let f : List ℕ × (ℕ × ℕ) → ℕ = λ x. cond (test x.0) x.1.1 0 in
    let limits = c.args.limits.now in
    let i = c.loop-limit.limit-index in
    let l = c.limit-item.result in
    let next = ap (λ xs. sum_by f (limits_view xs)) (from_here limits i l (omega arith) c.limit-item.is) ∙ sum_by-cons f (limit_view l) (limits_view (drop (i + 1) limits)) in
    let tested : c.is_reached.result ≡ test (string_bytes l.name) = c.is_reached.ensures ∙ ap test c.as_str.ensures.value in
    elim c.if-is_reached.branch [
      | then-is_reached w ↦ let here = cond-true {A = ℕ} (test (string_bytes l.name)) l.high 0 (sym tested ∙ w.if-is_reached.true) in record { whole = omega (arith, next, here, c.loop-limit.invariant.whole); small = omega (arith, c.loop-limit.invariant.small) }
      | else-is_reached w ↦ let here = cond-false {A = ℕ} (test (string_bytes l.name)) l.high 0 (sym tested ∙ w.if-is_reached.false) in record { whole = omega (arith, next, here, c.loop-limit.invariant.whole); small = omega (arith, c.loop-limit.invariant.small) }
    ]
