-- Each round settles one more node.
use Rattle.std.proofs.Common.{◌≡◌, ◌<◌, ◌+◌, ℕ, ℤ, true, false, Option, Some, None, length, to_z, of_z, arith, refl, sym, ap, ◌∙◌, subst}
use Rattle.std.proofs.lemmas.Int.{ints}
use Rattle.std.proofs.lemmas.List.{length-set}
use Rattle.std.specs.Int.{w64}
use Rattle.std.proofs.lemmas.Option.{slice_get-get_or, get_or_from_slice_get}
use Rattle.std.proofs.lemmas.Bool.{false≢true}
use Rattle.min_cost_flow.specs.Network.{IsShort, potential_in}
use Rattle.min_cost_flow.specs.Searched.{AreExhausted, IsNearest, distance_in, settle_order_in}
use Rattle.min_cost_flow.proofs.Rounds.{all_left, falls, short_distances, small, next, widened, row_of, row_length, row_at, row_short}
use Rattle.min_cost_flow.proofs.Counted.{settled_none, settled_one, settled_within}
use Rattle.min_cost_flow.proofs.Counted.{settled_all, settled_found}
use Rattle.min_cost_flow.proofs.search.settle.Goals as goal

pub loop-node-init : goal.loop-node-init
loop-node-init g c = record {
  round = record {
    many = refl;
    left = omega (arith, all_left (length c.args.nodes.now) c.args.nodes.now c.requires.begun.unsettled);
    searched = c.requires.begun.searched;
    unwanted = λ v within settled. absurd (omega (arith, c.requires.begun.unsettled v within));
  };
  effort = settled_none c.args.effort.now;
}

pub nearest-requires : goal.nearest-requires
nearest-requires g c =
    let n : ℕ = length c.args.nodes.now in
    let network = c.requires.network in
    let many = c.loop-node.auto.nodes in
    record {
      many = network.many ∙ sym many;
      potential = λ v within. network.short v (omega (arith, many, within));
      distance = λ v a within is. short_distances n c.args.arcs.now c.args.potentials.now c.args.wanted.now c.args.source c.loop-node.settled c.loop-node.nodes c.loop-node.invariant.round network.few v a (omega (arith, many, within)) is;
    }

shown_near : (n m : ℕ) (pot : ℕ → ℤ) (distance : ℕ → Option ℤ) (rank : ℕ → ℕ) (node : ℕ) (node_distance : ℤ) → m ≡ n → IsShort node_distance → IsNearest m pot distance rank node node_distance → IsNearest n pot distance rank node (to_z w64 (of_z w64 node_distance))
shown_near n m pot distance rank node node_distance same short near =
    let shown : to_z w64 (of_z w64 node_distance) ≡ node_distance = omega (arith, ints, short.low, short.high) in
    subst (λ k. IsNearest k pot distance rank node (to_z w64 (of_z w64 node_distance))) same (subst (λ z. IsNearest m pot distance rank node z) (sym shown) near)

pub returns-then-wanted-node-clause-search : goal.returns-then-wanted-node-clause-search
returns-then-wanted-node-clause-search g c =
    let n : ℕ = length c.args.nodes.now in
    let states = c.loop-node.nodes in
    let round = c.loop-node.invariant.round in
    let near : IsNearest (length states) (potential_in c.args.potentials.now) (distance_in states) (settle_order_in states) c.in-Some.node c.in-Some.node_distance = c.in-Some.ensures in
    let within : c.in-Some.node < n = omega (arith, near.within, c.loop-node.auto.nodes) in
    let short = short_distances n c.args.arcs.now c.args.potentials.now c.args.wanted.now c.args.source c.loop-node.settled states round c.requires.network.few c.in-Some.node c.in-Some.node_distance within near.reached in
    record {
      searched = widened n c.args.arcs.now c.args.potentials.now c.args.wanted.now c.args.source c.loop-node.settled states round;
      unwanted = round.unwanted;
      found = (
        shown_near n (length states) (potential_in c.args.potentials.now) (distance_in states) (settle_order_in states) c.in-Some.node c.in-Some.node_distance c.loop-node.auto.nodes short near,
        slice_get-get_or c.args.wanted.now c.in-Some.node false (omega (arith, within, c.requires.wanted)) ∙ ap Some c.if-wanted-node.true,
      );
    }

pub relax-requires-clause-costs : goal.relax-requires-clause-costs
relax-requires-clause-costs g c =
    let near : IsNearest (length c.loop-node.nodes) (potential_in c.args.potentials.now) (distance_in c.loop-node.nodes) (settle_order_in c.loop-node.nodes) c.in-Some.node c.in-Some.node_distance = c.in-Some.ensures in
    row_short (length c.args.nodes.now) c.in-Some.node c.args.arcs.now c.requires.network.square (omega (arith, near.within, c.loop-node.auto.nodes)) c.requires.network.costs

pub relax-requires-clause-node_distance : goal.relax-requires-clause-node_distance
relax-requires-clause-node_distance g c =
    let n : ℕ = length c.args.nodes.now in
    let near : IsNearest (length c.loop-node.nodes) (potential_in c.args.potentials.now) (distance_in c.loop-node.nodes) (settle_order_in c.loop-node.nodes) c.in-Some.node c.in-Some.node_distance = c.in-Some.ensures in
    let within : c.in-Some.node < n = omega (arith, near.within, c.loop-node.auto.nodes) in
    let short = short_distances n c.args.arcs.now c.args.potentials.now c.args.wanted.now c.args.source c.loop-node.settled c.loop-node.nodes c.loop-node.invariant.round c.requires.network.few c.in-Some.node c.in-Some.node_distance within near.reached in
    record { low = omega (arith, ints, short.low, short.high); high = omega (arith, ints, short.low, short.high) }

pub loop-node-smaller : goal.loop-node-smaller
loop-node-smaller g c =
    let n : ℕ = length c.args.nodes.now in
    let states = c.loop-node.nodes in
    let round = c.loop-node.invariant.round in
    let found : IsNearest (length states) (potential_in c.args.potentials.now) (distance_in states) (settle_order_in states) c.in-Some.node c.in-Some.node_distance = c.in-Some.ensures in
    let near : IsNearest n (potential_in c.args.potentials.now) (distance_in states) (settle_order_in states) c.in-Some.node c.in-Some.node_distance = subst (λ k. IsNearest k (potential_in c.args.potentials.now) (distance_in states) (settle_order_in states) c.in-Some.node c.in-Some.node_distance) c.loop-node.auto.nodes found in
    falls n c.args.arcs.now c.args.potentials.now c.args.wanted.now c.args.source c.loop-node.settled states round c.in-Some.node c.in-Some.node_distance near
    _ c.relax.new.nodes refl refl refl _ _ (c.relax.auto.nodes ∙ (length-set c.loop-node.nodes c.in-Some.node _ ∙ round.many)) c.relax.ensures

pub loop-node-preserved : goal.loop-node-preserved
loop-node-preserved g c =
    let n : ℕ = length c.args.nodes.now in
    let arcs = c.args.arcs.now in
    let states = c.loop-node.nodes in
    let node = c.in-Some.node in
    let node_distance = c.in-Some.node_distance in
    let found : IsNearest (length states) (potential_in c.args.potentials.now) (distance_in states) (settle_order_in states) node node_distance = c.in-Some.ensures in
    let near : IsNearest n (potential_in c.args.potentials.now) (distance_in states) (settle_order_in states) node node_distance = subst (λ k. IsNearest k (potential_in c.args.potentials.now) (distance_in states) (settle_order_in states) node node_distance) c.loop-node.auto.nodes found in
    let within : node < n = near.within in
    let round = c.loop-node.invariant.round in
    let square = c.requires.network.square in
    let short = short_distances n arcs c.args.potentials.now c.args.wanted.now c.args.source c.loop-node.settled states round c.requires.network.few node node_distance within near.reached in
    let shown : to_z w64 (of_z w64 node_distance) ≡ node_distance = omega (arith, ints, short.low, short.high) in
    record {
      round =
          next n arcs c.args.potentials.now c.args.wanted.now c.args.source c.loop-node.settled states round node node_distance near
          _ c.relax.new.nodes refl refl refl (row_of n node arcs square within) (to_z w64 (of_z w64 node_distance)) (c.relax.auto.nodes ∙ (length-set c.loop-node.nodes c.in-Some.node _ ∙ round.many)) c.relax.ensures
          (row_length n node arcs square within) (row_at n node arcs square within) shown c.requires.begun.within
          (λ is. false≢true (sym c.if-wanted-node.false ∙ get_or_from_slice_get c.args.wanted.now node true false is))
          c.requires.network.reduced c.requires.network.costs;
      effort = settled_one c.loop-node.settled c.args.effort.now c.loop-node.effort c.count_settling.new.self c.loop-node.invariant.effort c.count_settling.ensures.augmentations c.count_settling.ensures.settlings;
    }

pub returns-clause-search : goal.returns-clause-search
returns-clause-search g c =
    let n : ℕ = length c.args.nodes.now in
    let states = c.loop-node.nodes in
    let round = c.loop-node.invariant.round in
    record {
      searched = widened n c.args.arcs.now c.args.potentials.now c.args.wanted.now c.args.source c.loop-node.settled states round;
      unwanted = round.unwanted;
      found = subst (λ k. AreExhausted states k) c.loop-node.auto.nodes c.in_default.ensures;
    }

-- ---- what is counted

pub returns-then-wanted-node-clause-settled : goal.returns-then-wanted-node-clause-settled
returns-then-wanted-node-clause-settled g c =
    let round = c.loop-node.invariant.round in
    settled_found (ℕ × ℤ) (length c.args.nodes.now) c.loop-node.settled c.loop-node.nodes round.many round.left c.args.effort.now c.count_settling.new.self (c.in-Some.node, c.in-Some.node_distance)
    (settled_one c.loop-node.settled c.args.effort.now c.loop-node.effort c.count_settling.new.self c.loop-node.invariant.effort c.count_settling.ensures.augmentations c.count_settling.ensures.settlings)

pub returns-then-wanted-node-clause-effort : goal.returns-then-wanted-node-clause-effort
returns-then-wanted-node-clause-effort g c =
    let n : ℕ = length c.args.nodes.now in
    let states = c.loop-node.nodes in
    let near : IsNearest n (potential_in c.args.potentials.now) (distance_in states) (settle_order_in states) c.in-Some.node c.in-Some.node_distance =
    subst (λ k. IsNearest k (potential_in c.args.potentials.now) (distance_in states) (settle_order_in states) c.in-Some.node c.in-Some.node_distance) c.loop-node.auto.nodes c.in-Some.ensures in
    let room = small n c.args.arcs.now c.args.potentials.now c.args.wanted.now c.args.source c.loop-node.settled states c.loop-node.invariant.round c.in-Some.node c.in-Some.node_distance near in
    settled_within (c.loop-node.settled + 1) n c.args.effort.now c.count_settling.new.self (omega (arith, room))
    (settled_one c.loop-node.settled c.args.effort.now c.loop-node.effort c.count_settling.new.self c.loop-node.invariant.effort c.count_settling.ensures.augmentations c.count_settling.ensures.settlings)

pub returns-clause-settled : goal.returns-clause-settled
returns-clause-settled g c =
    let round = c.loop-node.invariant.round in
    settled_all (ℕ × ℤ) (length c.args.nodes.now) c.loop-node.settled c.loop-node.nodes round.many round.left c.args.effort.now c.loop-node.effort c.loop-node.invariant.effort

pub returns-clause-effort : goal.returns-clause-effort
returns-clause-effort g c =
    settled_within c.loop-node.settled (length c.args.nodes.now) c.args.effort.now c.loop-node.effort (omega (arith, c.loop-node.invariant.round.left)) c.loop-node.invariant.effort
