use Rattle.std.proofs.Common.{◌≡◌, pos, ◌*ℤ◌, ◌≤ℤ◌, drop, to_z, of_z, ap, sym, ◌∙◌, arith, rules}
use Rattle.std.proofs.lemmas.Int.{ints, clamps, to_z-of_z}
use Rattle.std.specs.Int.{w64, int_min}
use Rattle.price_core.specs.Limits.{limits_view}
use Rattle.transport_core.specs.Certificate.{beta_view}
use Rattle.transport_core.proofs.Weighted.{losses-more, losses-le, Beta}
use Rattle.transport_core.proofs.duals.falls_to.Goals as goal

pub loop-i-preserved : goal.loop-i-preserved
loop-i-preserved c =
    let limits = c.args.limits.now in
    let beta = c.args.beta.now in
    let i = c.loop-i.i in
    let l = c.index-limits-i.result in
    let b = c.index-beta-i.result in
    let more = losses-more limits beta i l b (omega arith) (omega (arith, c.requires.same)) c.index-limits-i.is c.index-beta-i.is in
    let small : to_z w64 (of_z w64 c.min.result) ≡ int_min b.1 (pos 0) =
    to_z-of_z w64 c.min.result (search rules) ∙ (c.min.ensures.value ∙ (ap (λ (x : Beta). int_min (to_z w64 (of_z w64 x.1)) (pos 0)) (sym c.index-beta-i.is) ∙ ap (λ z. int_min z (pos 0)) (to_z-of_z w64 b.1 (search rules)))) in
    let value = c.times-sum.ensures.value ∙ ap (λ z. pos l.high *ℤ z) small in
    let falls : c.times-sum.result ≤ℤ pos 0 = c.times-sum.ensures.negative (omega (arith, ints, clamps, small)) in
    record {
      whole = omega (arith, ints, more, value, falls, c.times-sum.ensures.low, c.loop-i.invariant.whole, c.loop-i.invariant.high);
      high = omega (arith, ints, falls, c.times-sum.ensures.low, c.loop-i.invariant.high);
    }

pub returns-then-sum-lt0 : goal.returns-then-sum-lt0
returns-then-sum-lt0 c =
    let rest = losses-le (limits_view (drop c.loop-i.i c.args.limits.now)) (beta_view (drop c.loop-i.i c.args.beta.now)) in
    (λ t. cc, λ e. absurd (grind (arith, ints, e, c.loop-i.invariant.whole, rest)))
