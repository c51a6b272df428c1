-- What was made is the problem, by number.
use Rattle.std.proofs.Common.{◌≡◌, List, ℕ, map, sym, ap, ◌∙◌, subst}
use Rattle.std.specs.List.{All, Contains, flat_map}
use Rattle.std.specs.Map.{keys_of}
use Rattle.price_core.specs.Limits.{Limits, limits_view}
use Rattle.price_core.specs.Pricing.{Pricing}
use Rattle.min_cost_flow.specs.declared.problem.FlowProblem.{FlowProblem}
use Rattle.transport_core.specs.Groups.{GroupKey}
use Rattle.transport_plan.specs.Network.{AreGroups, price_row}
use Rattle.transport_plan.proofs.Numbering.{numbered, lawful}
use Rattle.transport_plan.proofs.network.flow_problem.Goals as goal

pub groups-requires-2 : goal.groups-requires-2
groups-requires-2 c =
    let same : limits_view c.entries-limits.result.now ≡ c.args.instance.now.limits = c.entries-limits.ensures.value ∙ c.totals.ensures.value in
    let listed = subst (λ (ls : Limits). All (λ (g : GroupKey × ℕ). Contains (keys_of ls) g.0.0) c.args.instance.now.groups) (sym same) c.groups.ensures.lawful.listed in
    record { listed = subst (λ (gs : List (GroupKey × ℕ)). All (λ (g : GroupKey × ℕ). Contains (keys_of (limits_view c.entries-limits.result.now)) g.0.0) gs) (sym c.groups.ensures.value) listed }

pub returns-clause-numbered : goal.returns-clause-numbered
returns-clause-numbered c =
    let t = c.args.instance.now in
    let q : FlowProblem = record { groups = c.in_ok-groups.groups; costs = c.in_ok-costs.costs; low = c.in_ok-low.low; high = c.in_ok-high.high } in
    let same : limits_view c.entries-limits.result.now ≡ t.limits = c.entries-limits.ensures.value ∙ c.totals.ensures.value in
    let are = subst (λ (ls : Limits). AreGroups (keys_of ls) t.groups q.groups.items) same (subst (λ (gs : List (GroupKey × ℕ)). AreGroups (keys_of (limits_view c.entries-limits.result.now)) gs q.groups.items) c.groups.ensures.value c.in_ok-groups.ensures) in
    let table = c.in_ok-costs.ensures.table ∙ (ap (λ (ls : Limits). flat_map (price_row c.prices.result.now (keys_of ls)) (keys_of ls)) same ∙ ap (λ (p : Pricing). flat_map (price_row p (keys_of t.limits)) (keys_of t.limits)) c.prices.ensures.value) in
    numbered t c.groups.ensures.lawful q are table c.in_ok-costs.ensures.priced (c.in_ok-low.ensures ∙ ap (map (λ l. l.1.0)) same) (c.in_ok-high.ensures ∙ ap (map (λ l. l.1.1)) same)

pub returns-clause-lawful : goal.returns-clause-lawful
returns-clause-lawful c =
    let t = c.args.instance.now in
    let q : FlowProblem = record { groups = c.in_ok-groups.groups; costs = c.in_ok-costs.costs; low = c.in_ok-low.low; high = c.in_ok-high.high } in
    let same : limits_view c.entries-limits.result.now ≡ t.limits = c.entries-limits.ensures.value ∙ c.totals.ensures.value in
    let are = subst (λ (ls : Limits). AreGroups (keys_of ls) t.groups q.groups.items) same (subst (λ (gs : List (GroupKey × ℕ)). AreGroups (keys_of (limits_view c.entries-limits.result.now)) gs q.groups.items) c.groups.ensures.value c.in_ok-groups.ensures) in
    let table = c.in_ok-costs.ensures.table ∙ (ap (λ (ls : Limits). flat_map (price_row c.prices.result.now (keys_of ls)) (keys_of ls)) same ∙ ap (λ (p : Pricing). flat_map (price_row p (keys_of t.limits)) (keys_of t.limits)) c.prices.ensures.value) in
    lawful t c.groups.ensures.lawful q are table c.in_ok-costs.ensures.priced (c.in_ok-low.ensures ∙ ap (map (λ l. l.1.0)) same) (c.in_ok-high.ensures ∙ ap (map (λ l. l.1.1)) same)
