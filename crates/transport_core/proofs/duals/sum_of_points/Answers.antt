use Rattle.std.proofs.Common.{◌<◌, pos, ◌*ℤ◌, [], length, get_or, to_z, of_z, sym, ap, ◌∙◌, arith, rules}
use Rattle.std.proofs.lemmas.Int.{ints, to_z-of_z}
use Rattle.std.specs.Int.{w64}
use Rattle.transport_core.proofs.Members.{any_default}
use Rattle.transport_core.proofs.Weighted.{points-more, whole-more, Row, Alpha}
use Rattle.transport_core.proofs.duals.sum_of_points.Goals as goal

pub loop-i-preserved : goal.loop-i-preserved
loop-i-preserved c =
    let groups = c.args.groups.now in
    let alpha = c.args.alpha.now in
    let i = c.loop-i.i in
    let none : Row = ((record { ref_ptr = (0, 0); now = [] }, 0), 0) in
    let g : Row = get_or groups i none in
    let a = c.index-alpha-i.result in
    let inside : i < length groups = omega arith in
    let within : i < length alpha = omega (arith, c.requires.same) in
    let g_is = any_default groups i none g inside in
    let points = points-more groups alpha i g a inside within g_is c.index-alpha-i.is in
    let whole = whole-more groups i g inside g_is in
    let value = c.times-sum.ensures.value ∙ (ap (λ (x : Alpha). pos g.1 *ℤ to_z w64 (of_z w64 x.2)) (sym c.index-alpha-i.is) ∙ ap (λ z. pos g.1 *ℤ z) (to_z-of_z w64 a.2 (search rules))) in
    let loop = c.loop-i.invariant in
    record {
      whole = omega (arith, ints, points, value, loop.whole, loop.low, loop.high, c.times-sum.ensures.low, c.times-sum.ensures.high, c.requires.points, whole);
      low = omega (arith, ints, whole, loop.low, loop.high, c.times-sum.ensures.low, c.times-sum.ensures.high, c.requires.points);
      high = omega (arith, ints, whole, loop.low, loop.high, c.times-sum.ensures.low, c.times-sum.ensures.high, c.requires.points);
    }
