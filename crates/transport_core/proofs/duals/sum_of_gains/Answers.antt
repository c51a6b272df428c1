use Rattle.std.proofs.Common.{◌≡◌, ◌<◌, pos, ◌*ℤ◌, ◌≤ℤ◌, length, to_z, of_z, ap, sym, ◌∙◌, arith, rules}
use Rattle.std.proofs.lemmas.Int.{ints, clamps, to_z-of_z}
use Rattle.std.specs.Int.{w64, int_max}
use Rattle.transport_core.proofs.Weighted.{gains-more, lows-more, Beta}
use Rattle.transport_core.proofs.duals.sum_of_gains.Goals as goal

pub loop-i-preserved : goal.loop-i-preserved
loop-i-preserved c =
    let limits = c.args.limits.now in
    let beta = c.args.beta.now in
    let i = c.loop-i.i in
    let l = c.index-limits-i.result in
    let b = c.index-beta-i.result in
    let inside : i < length limits = omega arith in
    let more = gains-more limits beta i l b inside (omega (arith, c.requires.same)) c.index-limits-i.is c.index-beta-i.is in
    let lows = lows-more limits i l inside c.index-limits-i.is in
    let large : to_z w64 (of_z w64 c.max.result) ≡ int_max b.1 (pos 0) =
    to_z-of_z w64 c.max.result (search rules) ∙ (c.max.ensures.value ∙ (ap (λ (x : Beta). int_max (to_z w64 (of_z w64 x.1)) (pos 0)) (sym c.index-beta-i.is) ∙ ap (λ z. int_max z (pos 0)) (to_z-of_z w64 b.1 (search rules)))) in
    let value = c.times-sum.ensures.value ∙ ap (λ z. pos l.low *ℤ z) large in
    let rises : pos 0 ≤ℤ c.times-sum.result = c.times-sum.ensures.positive (omega (arith, ints, clamps, large)) in
    let loop = c.loop-i.invariant in
    record {
      whole = omega (arith, ints, more, value, rises, lows, loop.whole, loop.low, loop.high, c.times-sum.ensures.high, c.requires.lows);
      low = omega (arith, ints, rises, lows, loop.low, loop.high, c.times-sum.ensures.high, c.requires.lows);
      high = omega (arith, ints, rises, lows, loop.low, loop.high, c.times-sum.ensures.high, c.requires.lows);
    }
