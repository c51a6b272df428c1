-- The search begins with its source alone, and ends stuck or with a node that is wanted.
use Rattle.std.proofs.Common.{◌≡◌, ◌≤◌, ◌<◌, ℕ, ℤ, Bool, Option, Some, None, List, length, MatchOption, to_z, of_z, arith, sym, ap, ◌∙◌, subst}
use Rattle.std.proofs.lemmas.Int.{ints}
use Rattle.std.proofs.lemmas.List.{with_items_is}
use Rattle.std.specs.Int.{w64}
use Rattle.std.specs.Vec.{with_items}
use Rattle.min_cost_flow.specs.Found.{HasFound, IsStuck, settled_nodes}
use Rattle.min_cost_flow.specs.Network.{IsNetwork, IsShort, arc_at, max_cost, max_nodes, potential_in}
use Rattle.min_cost_flow.specs.Searched.{AreSearched, EndsSearch, IsSearched, Lowers, distance_in, predecessor_in, settle_order_in}
use Rattle.min_cost_flow.specs.Spent.{HasSettled}
use Rattle.min_cost_flow.specs.declared.arc.Arc.{Arc}
use Rattle.min_cost_flow.specs.declared.node.NodeState.{NodeState}
use Rattle.min_cost_flow.proofs.Finding.{begun, stuck, found}
use Rattle.min_cost_flow.proofs.Rounds.{short_after}
use Rattle.min_cost_flow.proofs.search.Search.find.Goals as goal

short_found : (n : ℕ) (arcs : List (Option Arc)) (potentials : List ℤ) (source : ℕ) (states : List NodeState) → n ≤ max_nodes → AreSearched n arcs potentials source n states → (v : ℕ) (a : ℤ) → v < n → distance_in states v ≡ Some a → IsShort a
short_found n arcs potentials source states few search v a within is = short_after n a few (search.low v a within is) (search.high v a within is)

shown_short : (a : ℤ) → IsShort a → IsShort (to_z w64 (of_z w64 a))
shown_short a s = record { low = omega (arith, ints, s.low, s.high); high = omega (arith, ints, s.low, s.high) }

shown_is : (a : ℤ) → IsShort a → to_z w64 (of_z w64 a) ≡ a
shown_is a s = omega (arith, ints, s.low, s.high)

-- what a search finds, by potentials and nodes as slices
abbrev pub FindsIn : Option ℕ → List (Option Arc) → List Bool → ℕ → ℕ → List ℤ → List ℤ → List NodeState → Type 0
FindsIn result arcs wanted source n old new states = MatchOption result
    (IsStuck n (arc_at arcs n) wanted source (potential_in old) (potential_in new) (settle_order_in states))
    (HasFound n (arc_at arcs n) wanted source (potential_in old) (potential_in new) (predecessor_in states) (settle_order_in states))

-- the same as they stand in the search
same_tables : (result : Option ℕ) (arcs : List (Option Arc)) (wanted : List Bool) (source n : ℕ) (old old' new new' : List ℤ) (states states' : List NodeState) → old ≡ old' → new ≡ new' → states ≡ states'
    → FindsIn result arcs wanted source n old new states → FindsIn result arcs wanted source n old' new' states'
same_tables result arcs wanted source n old old' new new' states states' same_old same_new same_states known =
    subst (λ (xs : List NodeState). FindsIn result arcs wanted source n old' new' xs) same_states
    (subst (λ (xs : List ℤ). FindsIn result arcs wanted source n old' xs states) same_new (subst (λ (xs : List ℤ). FindsIn result arcs wanted source n xs new states) same_old known))

pub settle-requires-clause-network : goal.settle-requires-clause-network
settle-requires-clause-network g c =
    let arcs = c.args.arcs.now in
    let many : length c.begin.new.nodes ≡ length c.args.wanted.now = omega (arith, c.begin.auto.nodes, ap length c.as_mut_slice-nodes.ensures.value, c.requires.size.nodes) in
    subst (λ n. IsNetwork n arcs c.as_mut_slice-potentials.result.now) (sym many) (subst (λ (xs : List ℤ). IsNetwork (length c.args.wanted.now) arcs xs) (sym c.as_mut_slice-potentials.ensures.value) c.requires.network)

pub settle-requires-clause-begun : goal.settle-requires-clause-begun
settle-requires-clause-begun g c =
    let nodes = c.begin.new.nodes in
    let m : ℕ = length nodes in
    let same : m ≡ length c.as_mut_slice-nodes.result.now = c.begin.auto.nodes in
    let begins = c.begin.ensures in
    let source_in : c.args.source < m = omega (arith, same, ap length c.as_mut_slice-nodes.ensures.value, c.requires.size.nodes, c.requires.source) in
    record {
      within = source_in;
      unsettled = λ v v_in. omega (arith, same, begins.unsettled v (omega (arith, same, v_in)));
      searched = begun m (arc_at c.args.arcs.now m) (potential_in c.as_mut_slice-potentials.result.now) c.args.source (distance_in nodes) (predecessor_in nodes) (settle_order_in nodes) source_in
          (λ v v_in. begins.unsettled v (omega (arith, same, v_in)) ∙ sym same) (λ v v_in not. begins.unreached v (omega (arith, same, v_in)) not) begins.start;
    }

pub lower-requires-clause-node_distance : goal.lower-requires-clause-node_distance
lower-requires-clause-node_distance g c =
    let n : ℕ = length c.begin.new.nodes in
    let few : n ≤ max_nodes = omega (arith, c.begin.auto.nodes, ap length c.as_mut_slice-nodes.ensures.value, c.requires.size.nodes, c.requires.network.few) in
    let s = c.in-Some.ensures.search in
    shown_short c.in-Some.node_distance (short_found n c.args.arcs.now c.as_mut_slice-potentials.result.now c.args.source c.settle.new.nodes few s.searched c.in-Some.node c.in-Some.node_distance s.found.0.within s.found.0.reached)

pub lower-requires-clause-short : goal.lower-requires-clause-short
lower-requires-clause-short g c =
    let n : ℕ = length c.begin.new.nodes in
    let old = c.as_mut_slice-potentials.result.now in
    let many : n ≡ length c.args.wanted.now = omega (arith, c.begin.auto.nodes, ap length c.as_mut_slice-nodes.ensures.value, c.requires.size.nodes) in
    let settled : length c.settle.new.nodes ≡ n = c.settle.auto.nodes in
    let network = c.requires.network in
    let few : n ≤ max_nodes = omega (arith, many, network.few) in
    let s = c.in-Some.ensures.search in
    record {
      many = omega (arith, ap length c.as_mut_slice-potentials.ensures.value, network.many, many, settled);
      potential = λ v within. subst (λ (xs : List ℤ). IsShort (potential_in xs v)) (sym c.as_mut_slice-potentials.ensures.value) (network.short v (omega (arith, settled, many, within)));
      distance = λ v a within is. short_found n c.args.arcs.now old c.args.source c.settle.new.nodes few s.searched v a (omega (arith, settled, within)) is;
    }

pub returns-in-Some-clause-found : goal.returns-in-Some-clause-found
returns-in-Some-clause-found g c =
    let t = c.args.self.now in
    let n : ℕ = length c.args.wanted.now in
    let many : length c.begin.new.nodes ≡ n = omega (arith, c.begin.auto.nodes, ap length c.as_mut_slice-nodes.ensures.value, c.requires.size.nodes) in
    let arcs = c.args.arcs.now in
    let source = c.args.source in
    let old = c.as_mut_slice-potentials.result.now in
    let new = c.lower.new.potentials in
    let states = c.settle.new.nodes in
    let node = c.in-Some.node in
    let far = c.in-Some.node_distance in
    let s : EndsSearch n arcs old c.args.wanted.now source states (Some (node, far)) = subst (λ k. EndsSearch k arcs old c.args.wanted.now source states (Some (node, far))) many c.in-Some.ensures.search in
    let near = s.found.0 in
    let lowers : Lowers n (potential_in old) (potential_in new) (distance_in states) (settle_order_in states) node (to_z w64 (of_z w64 far)) =
    subst (λ k. Lowers k (potential_in old) (potential_in new) (distance_in states) (settle_order_in states) node (to_z w64 (of_z w64 far))) (c.settle.auto.nodes ∙ many) c.lower.ensures in
    let network = subst (λ (xs : List ℤ). IsNetwork n arcs xs) (sym c.as_mut_slice-potentials.ensures.value) c.requires.network in
    let is = found n (arc_at arcs n) c.args.wanted.now source (potential_in old) (potential_in new) (distance_in states) (predecessor_in states) (settle_order_in states) node far (to_z w64 (of_z w64 far)) network.reduced s.searched near lowers
    (shown_is far (short_found n arcs old source states network.few s.searched node far near.within near.reached)) s.found.1 s.unwanted in
    same_tables (Some node) arcs c.args.wanted.now source n old t.potentials.items new (with_items t.potentials new).items states (with_items t.nodes states).items c.as_mut_slice-potentials.ensures.value
    (sym (with_items_is t.potentials new (omega (arith, c.lower.auto.potentials, network.many, c.requires.size.potentials, t.potentials.ok.0))))
    (sym (with_items_is t.nodes states (omega (arith, c.settle.auto.nodes, many, c.requires.size.nodes, t.nodes.ok.0)))) is

pub returns-in-None-clause-found : goal.returns-in-None-clause-found
returns-in-None-clause-found g c =
    let t = c.args.self.now in
    let n : ℕ = length c.args.wanted.now in
    let many : length c.begin.new.nodes ≡ n = omega (arith, c.begin.auto.nodes, ap length c.as_mut_slice-nodes.ensures.value, c.requires.size.nodes) in
    let arcs = c.args.arcs.now in
    let source = c.args.source in
    let old = c.as_mut_slice-potentials.result.now in
    let states = c.settle.new.nodes in
    let s : EndsSearch n arcs old c.args.wanted.now source states None = subst (λ k. EndsSearch k arcs old c.args.wanted.now source states None) many c.in-None.ensures.search in
    let is = stuck n (arc_at arcs n) c.args.wanted.now source n (potential_in old) (distance_in states) (predecessor_in states) (settle_order_in states) c.requires.source s.searched s.found s.unwanted in
    same_tables None arcs c.args.wanted.now source n old t.potentials.items old (with_items t.potentials old).items states (with_items t.nodes states).items c.as_mut_slice-potentials.ensures.value
    (sym (with_items_is t.potentials old (omega (arith, ap length c.as_mut_slice-potentials.ensures.value, t.potentials.ok.0))))
    (sym (with_items_is t.nodes states (omega (arith, c.settle.auto.nodes, many, c.requires.size.nodes, t.nodes.ok.0)))) is

pub returns-in-Some-clause-settled : goal.returns-in-Some-clause-settled
returns-in-Some-clause-settled g c =
    let t = c.args.self.now in
    let states = c.settle.new.nodes in
    let many : length c.begin.new.nodes ≡ length c.args.wanted.now = omega (arith, c.begin.auto.nodes, ap length c.as_mut_slice-nodes.ensures.value, c.requires.size.nodes) in
    subst (λ (xs : List NodeState). HasSettled (settled_nodes (length c.args.wanted.now) xs (Some c.in-Some.node)) c.args.effort.now c.settle.new.effort)
    (sym (with_items_is t.nodes states (omega (arith, c.settle.auto.nodes, many, c.requires.size.nodes, t.nodes.ok.0))))
    (subst (λ n. HasSettled (settled_nodes n states (Some c.in-Some.node)) c.args.effort.now c.settle.new.effort) many c.in-Some.ensures.settled)
