-- The search is over the flow's arcs.
use Rattle.std.proofs.Common.{◌+◌, ◌*◌, List, length, Option, sym, ap, ◌∙◌, subst, arith}
use Rattle.min_cost_flow.proofs.OptimalLaws.{reduced_from_optimal}
use Rattle.min_cost_flow.specs.Problem.{names_of}
use Rattle.min_cost_flow.specs.Flow.{flows_of}
use Rattle.min_cost_flow.proofs.ArcCosts.{cheap_arcs}
use Rattle.min_cost_flow.specs.Found.{potential_of}
use Rattle.min_cost_flow.specs.Network.{HasNonNegativeReducedCosts, HasCostsWithin, arc_at, max_cost}
use Rattle.min_cost_flow.specs.declared.arc.Arc.{Arc}
use Rattle.min_cost_flow.proofs.Filled.{short_potential}
use Rattle.min_cost_flow.proofs.Reached.{found_below}
use Rattle.min_cost_flow.proofs.meeting.find_below.Goals as goal

pub find-requires-clause-network : goal.find-requires-clause-network
find-requires-clause-network g c =
    let p = c.args.problem.now in
    let f = c.args.flow.now in
    let pass = c.requires.second_pass in
    let same = sym c.requires.wanted.size in
    let potential = potential_of c.args.search.now in
    record {
      few = omega (arith, c.requires.wanted.size, c.requires.problem.names);
      square = ap (λ (xs : List (Option Arc)). length xs) c.as_slice.ensures.value ∙ (pass.flow.tables.arcs ∙ ap (λ n. n * n) same);
      many = pass.size.potentials ∙ same;
      short = λ v v_in. short_potential (potential v) (pass.low v (omega (arith, v_in, c.requires.wanted.size))) (pass.high v (omega (arith, v_in, c.requires.wanted.size)));
      costs =
          subst (λ n. HasCostsWithin n (arc_at c.as_slice.result.now n) max_cost) same
          (subst (λ xs. HasCostsWithin (names_of p + 1) (arc_at xs (names_of p + 1)) max_cost) (sym c.as_slice.ensures.value) (cheap_arcs p c.requires.problem f.placed.items f.totals.items f.arcs.items pass.flow.tables));
      reduced =
          subst (λ n. HasNonNegativeReducedCosts n (arc_at c.as_slice.result.now n) potential) same
          (subst (λ xs. HasNonNegativeReducedCosts (names_of p + 1) (arc_at xs (names_of p + 1)) potential) (sym c.as_slice.ensures.value) (reduced_from_optimal (flows_of p f) (arc_at f.arcs.items (names_of p + 1)) potential pass.flow.tables.residual pass.optimal));
    }

pub returns-clause-path : goal.returns-clause-path
returns-clause-path g c =
    found_below c.args.problem.now c.requires.problem c.args.flow.now c.args.search.now c.find.new.self c.args.wanted.now c.find.result c.as_slice.result.now (length c.args.wanted.now) c.len.result c.requires.second_pass c.requires.wanted c.as_slice.ensures.value c.requires.wanted.size
    (c.len.ensures ∙ c.args.problem.now.high.ok.0) c.find.ensures.size c.find.ensures.found
