-- The search is over the flow's arcs.
use Rattle.std.proofs.Common.{◌≡◌, ◌+◌, ◌*◌, List, length, Option, sym, ap, ◌∙◌, subst, arith}
use Rattle.std.proofs.lemmas.List.{get_or_default}
use Rattle.min_cost_flow.proofs.OptimalLaws.{reduced_from_optimal}
use Rattle.min_cost_flow.specs.Problem.{names_of}
use Rattle.min_cost_flow.specs.Flow.{flows_of}
use Rattle.min_cost_flow.proofs.ArcCosts.{cheap_arcs}
use Rattle.min_cost_flow.specs.Found.{HasFound, HasSize, IsStuck, predecessor_of, potential_of, rank_of}
use Rattle.min_cost_flow.specs.Network.{HasNonNegativeReducedCosts, HasCostsWithin, arc_at, max_cost}
use Rattle.min_cost_flow.specs.Searched.{no_node}
use Rattle.min_cost_flow.specs.declared.arc.Arc.{Arc}
use Rattle.min_cost_flow.specs.declared.node.NodeState.{NodeState}
use Rattle.min_cost_flow.proofs.Filled.{short_potential, stuck_of, path_of}
use Rattle.min_cost_flow.proofs.placing.find_room.Goals as goal

pub find-requires-clause-network : goal.find-requires-clause-network
find-requires-clause-network g c =
    let p = c.args.problem.now in
    let f = c.args.flow.now in
    let pass = c.requires.first_pass in
    let same = sym c.requires.wanted.size in
    let potential = potential_of c.args.search.now in
    record {
      few = omega (arith, c.requires.wanted.size, c.requires.problem.names);
      square = ap (λ (xs : List (Option Arc)). length xs) c.as_slice.ensures.value ∙ (pass.flow.tables.arcs ∙ ap (λ n. n * n) same);
      many = pass.size.potentials ∙ same;
      short = λ v v_in. short_potential (potential v) (pass.low v (omega (arith, v_in, c.requires.wanted.size))) (pass.high v (omega (arith, v_in, c.requires.wanted.size)));
      costs =
          subst (λ n. HasCostsWithin n (arc_at c.as_slice.result.now n) max_cost) same
          (subst (λ xs. HasCostsWithin (names_of p + 1) (arc_at xs (names_of p + 1)) max_cost) (sym c.as_slice.ensures.value) (cheap_arcs p c.requires.problem f.placed.items f.totals.items f.arcs.items pass.flow.tables));
      reduced =
          subst (λ n. HasNonNegativeReducedCosts n (arc_at c.as_slice.result.now n) potential) same
          (subst (λ xs. HasNonNegativeReducedCosts (names_of p + 1) (arc_at xs (names_of p + 1)) potential) (sym c.as_slice.ensures.value) (reduced_from_optimal (flows_of p f) (arc_at f.arcs.items (names_of p + 1)) potential pass.flow.tables.residual pass.optimal));
    }

pub returns-in-Some-clause-path : goal.returns-in-Some-clause-path
returns-in-Some-clause-path g c =
    let p = c.args.problem.now in
    let f = c.args.flow.now in
    let s = c.args.search.now in
    let s' = c.find.new.self in
    let wanted = c.args.wanted.now in
    let from = c.args.from in
    let wants = c.requires.wanted in
    let e = c.in-Some.ensures in
    let node_is : c.in-Some.root ≡ names_of p = wants.only c.in-Some.root e.found.is_wanted in
    let size : HasSize (names_of p + 1) s' = subst (λ n. HasSize n s') wants.size e.size in
    let found : HasFound (names_of p + 1) (arc_at f.arcs.items (names_of p + 1)) wanted from (potential_of s) (potential_of s') (predecessor_of s') (rank_of s') (names_of p) =
    subst (λ k. HasFound (names_of p + 1) (arc_at f.arcs.items (names_of p + 1)) wanted from (potential_of s) (potential_of s') (predecessor_of s') (rank_of s') k) node_is
    (subst (λ (xs : List (Option Arc)). HasFound (names_of p + 1) (arc_at xs (names_of p + 1)) wanted from (potential_of s) (potential_of s') (predecessor_of s') (rank_of s') c.in-Some.root) c.as_slice.ensures.value
    (subst (λ n. HasFound n (arc_at c.as_slice.result.now n) wanted from (potential_of s) (potential_of s') (predecessor_of s') (rank_of s') c.in-Some.root) wants.size e.found)) in
    let last_is : c.index.result.now.predecessor ≡ predecessor_of s' (names_of p) =
    ap (λ (n : NodeState). n.predecessor) (c.index.ensures ∙ get_or_default s'.nodes.items c.in-Some.root c.index.result.now no_node (omega (arith, node_is, size.nodes))) ∙ ap (predecessor_of s') node_is in
    path_of p c.requires.problem f s s' wanted from c.index.result.now.predecessor c.requires.first_pass c.requires.above.within size found last_is

pub returns-in-None-clause-path : goal.returns-in-None-clause-path
returns-in-None-clause-path g c =
    let p = c.args.problem.now in
    let f = c.args.flow.now in
    let s = c.args.search.now in
    let s' = c.find.new.self in
    let wanted = c.args.wanted.now in
    let from = c.args.from in
    let wants = c.requires.wanted in
    let stuck : IsStuck (names_of p + 1) (arc_at f.arcs.items (names_of p + 1)) wanted from (potential_of s) (potential_of s') (rank_of s') =
    subst (λ (xs : List (Option Arc)). IsStuck (names_of p + 1) (arc_at xs (names_of p + 1)) wanted from (potential_of s) (potential_of s') (rank_of s')) c.as_slice.ensures.value
    (subst (λ n. IsStuck n (arc_at c.as_slice.result.now n) wanted from (potential_of s) (potential_of s') (rank_of s')) wants.size c.in-None.ensures.found) in
    stuck_of p f s s' wanted from c.requires.first_pass wants c.requires.above.within c.requires.above.over (subst (λ n. HasSize n s') wants.size c.find.ensures.size) stuck
