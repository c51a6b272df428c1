-- Each turn goes one step back.
use Rattle.std.proofs.Common.{◌≡◌, ◌⊎◌, inl, inr, ⊎_elim, ◌+◌, length, ◌*◌, refl, sym, ap, ◌∙◌, subst, rules, arith}
use Rattle.min_cost_flow.specs.Problem.{names_of}
use Rattle.min_cost_flow.specs.Found.{predecessor_of, potential_of, rank_of}
use Rattle.min_cost_flow.specs.Network.{arc_at}
use Rattle.min_cost_flow.specs.Searched.{predecessor_in}
use Rattle.min_cost_flow.proofs.Tracing.{Traces, before_within, rank_falls, traced_whole, traces_more}
use Rattle.min_cost_flow.proofs.augmenting.trace.Goals as goal

pub group_between-group-requires : goal.group_between-group-requires
group_between-group-requires c =
    let names : c.len-names.result ≡ names_of c.args.problem.now = search rules in
    let from : c.in-Some.from ≡ predecessor_of c.args.search.now c.loop-from.to = c.in-Some.ensures.0 ∙ ap (λ xs. predecessor_in xs c.loop-from.to) c.as_slice.ensures.value in
    let before = before_within c.args.problem.now c.args.flow.now (potential_of c.args.search.now) (predecessor_of c.args.search.now) (rank_of c.args.search.now) c.args.source c.args.last c.loop-from.to c.loop-from.steps.items c.requires.flow c.requires.traced c.loop-from.invariant
    c.in-Some.ensures.1 (λ is. c.in-Some.ensures.2 (from ∙ (is ∙ sym names))) in
    record {
      few = omega (arith, names, c.requires.problem.names);
      arcs = ap (λ xs. length xs) c.as_slice-in-Some.ensures.value ∙ (c.requires.flow.tables.arcs ∙ ap (λ n. (n + 1) * (n + 1)) (sym names));
      from = omega (arith, names, from, before);
      to = omega (arith, names, c.loop-from.invariant.within);
    }

pub loop-from-smaller : goal.loop-from-smaller
loop-from-smaller c =
    let from : c.in-Some.from ≡ predecessor_of c.args.search.now c.loop-from.to = c.in-Some.ensures.0 ∙ ap (λ xs. predecessor_in xs c.loop-from.to) c.as_slice.ensures.value in
    omega (
      arith,
      rank_falls c.args.problem.now c.args.flow.now (potential_of c.args.search.now) (predecessor_of c.args.search.now) (rank_of c.args.search.now) c.args.source c.args.last c.loop-from.to c.loop-from.steps.items c.requires.flow c.requires.traced c.loop-from.invariant c.in-Some.ensures.1,
      ap (rank_of c.args.search.now) from,
    )

pub loop-from-preserved : goal.loop-from-preserved
loop-from-preserved c =
    let names : c.len-names.result ≡ names_of c.args.problem.now = search rules in
    let from : c.in-Some.from ≡ predecessor_of c.args.search.now c.loop-from.to = c.in-Some.ensures.0 ∙ ap (λ xs. predecessor_in xs c.loop-from.to) c.as_slice.ensures.value in
    let potential = potential_of c.args.search.now in
    let rank = rank_of c.args.search.now in
    let more = traces_more c.args.problem.now c.args.flow.now potential (predecessor_of c.args.search.now) rank c.args.source c.args.last c.loop-from.to c.loop-from.steps.items c.requires.flow c.requires.traced c.loop-from.invariant
    (record { group = c.group_between-group.result; from = c.in-Some.from; to = c.loop-from.to }) from refl c.in-Some.ensures.1 (λ is. c.in-Some.ensures.2 (from ∙ (is ∙ sym names)))
    (λ a is. c.group_between-group.ensures a (ap (λ xs. arc_at xs (c.len-names.result + 1) c.in-Some.from c.loop-from.to) c.as_slice-in-Some.ensures.value ∙ (ap (λ n. arc_at c.args.flow.now.arcs.items (n + 1) c.in-Some.from c.loop-from.to) names ∙ is))) in
    subst (λ xs. Traces c.args.problem.now c.args.flow.now potential rank c.args.last c.in-Some.from xs) (sym c.in_ok-push.ensures.items) more

pub returns : goal.returns
returns c =
    let p = c.args.problem.now in
    let s = c.args.search.now in
    let names : c.len-names.result ≡ names_of p = search rules in
    let predecessor_is : predecessor_in c.as_slice.result.now c.loop-from.to ≡ predecessor_of s c.loop-from.to = ap (λ xs. predecessor_in xs c.loop-from.to) c.as_slice.ensures.value in
    let ends : (c.loop-from.to ≡ c.args.source) ⊎ (predecessor_of s c.loop-from.to ≡ names_of p) =
    ⊎_elim
    (λ (is : c.loop-from.to ≡ c.args.source). inl is)
    (λ (next : predecessor_in c.as_slice.result.now c.loop-from.to ≡ c.len-names.result). inr (sym predecessor_is ∙ (next ∙ names)))
    c.in_default.ensures in
    traced_whole p c.args.flow.now (potential_of s) (predecessor_of s) (rank_of s) c.args.source c.args.last c.loop-from.to c.loop-from.steps.items c.requires.flow c.requires.traced c.loop-from.invariant (record { first = c.loop-from.to; steps = c.loop-from.steps }) refl refl ends
