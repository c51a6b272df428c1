-- The steps of the path have the reduced cost 0, and its ends keep their limits.
use Rattle.std.proofs.Common.{◌≡◌, ◌≢◌, ◌-◌, List, get_or, min, sym, ap, ◌∙◌, subst, arith}
use Rattle.std.specs.List.{All, AllPairs}
use Rattle.min_cost_flow.specs.Flow.{total_at}
use Rattle.min_cost_flow.specs.Found.{potential_of, rank_of}
use Rattle.min_cost_flow.specs.Paths.{IsBottleneck, HasZeroReducedCost, IsStep, Leads}
use Rattle.min_cost_flow.specs.declared.augmenting.Step.{Step}
use Rattle.min_cost_flow.proofs.Augmented.{start_over, augmented}
use Rattle.min_cost_flow.proofs.augmenting.augment.Goals as goal

pub push_along-requires-clause-steps : goal.push_along-requires-clause-steps
push_along-requires-clause-steps c =
    let p = c.args.problem.now in
    let old = c.args.flow.now in
    let path = c.in_ok-path.path in
    let steps = sym c.as_slice-steps.ensures.value in
    let totals = c.as_slice.ensures.value in
    let over = start_over p old (potential_of c.args.search.now) (rank_of c.args.search.now) c.args.limits.now c.args.source c.args.last path c.in_ok-path.ensures c.requires.path.above in
    record {
      each = subst (λ (xs : List Step). All (IsStep p old) xs) steps c.in_ok-path.ensures.steps.each;
      apart = subst (λ (xs : List Step). AllPairs (λ s t. s.from ≢ t.from) xs) steps c.in_ok-path.ensures.steps.apart;
      some = c.bottleneck-points.ensures.some (omega (arith, c.room_between-most.ensures, ap (λ xs. get_or xs path.first 0) totals, ap (λ xs. get_or xs c.args.last 0) totals, over, c.requires.path.below));
      wide = c.bottleneck-points.ensures.bottleneck.wide;
    }

pub returns-clause-least : goal.returns-clause-least
returns-clause-least c =
    let potential = potential_of c.args.search.now in
    let reduced_zero = subst (λ (xs : List Step). All (HasZeroReducedCost c.args.problem.now potential) xs) (sym c.as_slice-steps.ensures.value) c.in_ok-path.ensures.steps.reduced_zero in
    c.push_along.ensures.least potential reduced_zero c.requires.path.least

pub returns-clause-augmented : goal.returns-clause-augmented
returns-clause-augmented c =
    let p = c.args.problem.now in
    let path = c.in_ok-path.path in
    let leads = subst (λ (xs : List Step). Leads path.first c.args.last xs) (sym c.as_slice-steps.ensures.value) c.in_ok-path.ensures.steps.leads in
    let most = c.room_between-most.ensures in
    let totals = c.as_slice.ensures.value in
    let first_is = ap (λ xs. get_or xs path.first 0) totals in
    let last_is = ap (λ xs. get_or xs c.args.last 0) totals in
    let over = start_over p c.args.flow.now (potential_of c.args.search.now) (rank_of c.args.search.now) c.args.limits.now c.args.source c.args.last path c.in_ok-path.ensures c.requires.path.above in
    let points = c.bottleneck-points.result in
    let old = c.args.flow.now in
    let most_is : c.room_between-most.result ≡ min (total_at old path.first - get_or c.args.limits.now path.first 0) (get_or c.args.limits.now c.args.last 0 - total_at old c.args.last) =
    most ∙ ap (λ xs. min (get_or xs path.first 0 - get_or c.args.limits.now path.first 0) (get_or c.args.limits.now c.args.last 0 - get_or xs c.args.last 0)) totals in
    let bottleneck = subst (λ m. IsBottleneck p old path.steps.items m points) most_is (subst (λ (xs : List Step). IsBottleneck p old xs c.room_between-most.result points) c.as_slice-steps.ensures.value c.bottleneck-points.ensures.bottleneck) in
    augmented p c.args.flow.now c.push_along.new.flow (potential_of c.args.search.now) (rank_of c.args.search.now) c.args.limits.now c.args.source c.args.last c.bottleneck-points.result path c.in_ok-path.ensures c.requires.path.above c.requires.path.below
    bottleneck
    (c.bottleneck-points.ensures.some (omega (arith, most, first_is, last_is, over, c.requires.path.below)))
    (c.push_along.ensures.totals path.first c.args.last leads)
