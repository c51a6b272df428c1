-- What holds of the instance holds of its groups and names.
use Rattle.std.proofs.Common.{◌<◌, ℕ, sym, ap, subst, arith}
use Rattle.std.specs.List.{All}
use Rattle.transport_core.specs.Groups.{GroupKey}
use Rattle.transport_core.specs.Rows.{whole_amount}
use Rattle.transport_core.proofs.Plans.{few_groups}
use Rattle.transport_plan.proofs.spreading.spread.Goals as goal

pub spread_over-requires-clause-few : goal.spread_over-requires-clause-few
spread_over-requires-clause-few c =
    let is = c.groups-groups.ensures.value in
    let lawful = c.groups-groups.ensures.lawful in
    omega (arith, few_groups c.groups-groups.result.now (subst (λ gs. All (λ (g : GroupKey × ℕ). 0 < g.1) gs) (sym is) lawful.sizes), ap whole_amount is, lawful.small)
