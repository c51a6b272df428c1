-- Each turn puts one more group.
use Rattle.std.proofs.Common.{◌≡◌, ◌+◌, ◌*◌, length, get_or, set, ap, refl, arith}
use Rattle.min_cost_flow.specs.Problem.{group_at}
use Rattle.min_cost_flow.proofs.Homes.{one_more, room}
use Rattle.min_cost_flow.proofs.initial.stay.Goals as goal

pub overflow_add-totals : goal.overflow_add-totals
overflow_add-totals c = omega (arith, room c.args.groups.now (length c.args.totals.now) c.loop-g.g c.loop-g.placed c.loop-g.totals c.loop-g.invariant c.loop-g-test.true (c.requires.variants c.loop-g.g c.loop-g-test.true) c.requires.weight)

pub loop-g-preserved : goal.loop-g-preserved
loop-g-preserved c =
    let g = c.loop-g.g in
    let groups = c.args.groups.now in
    let totals = c.loop-g.totals in
    let variant = (group_at groups g).variant in
    let points = (group_at groups g).points in
    let wide : length totals ≡ length c.args.totals.now = c.loop-g.auto.totals in
    one_more groups (length c.args.totals.now) g c.loop-g.placed totals c.loop-g.invariant c.loop-g-test.true (c.requires.variants g c.loop-g-test.true) (set c.loop-g.placed (g * length totals + variant) points) (set totals variant (get_or totals variant 0 + points))
    (ap (λ k. set c.loop-g.placed (g * k + variant) points) wide) refl
