-- The rounds of a search, each of which settles one more node.
use Rattle.std.proofs.Common.{◌≡◌, ℕ, ◌+◌, ◌-◌, ◌*◌, ◌<◌, ◌≤◌, ⊎_elim, ℤ, pos, ◌≤ℤ◌, neg_ℤ, Bool, true, List, [], ◌∷◌, suc, length, get_or, set, take, drop, count_by, nat_le, cond, Option, Some, None, refl, sym, ap, ◌∙◌, subst, arith}
use Rattle.std.proofs.lemmas.Bool.{cases_eq}
use Rattle.std.proofs.lemmas.Bool.Decides.{nat_tests}
use Rattle.std.proofs.lemmas.Int.{ints}
use Rattle.std.proofs.lemmas.List.{get_or-set_same, get_or-set_other, length-set, get_or-take, get_or-drop}
use Rattle.std.proofs.Common.{length-take, length-drop}
use Rattle.std.proofs.lemmas.List.Sums.{sum_by-set, sum_by-cons}
use Rattle.std.proofs.Math.Nat.{mul-le-mul_right}
use Rattle.std.specs.List.{slice_get}
use Rattle.min_cost_flow.specs.Network.{IsShort, HasNonNegativeReducedCosts, HasCostsWithin, arc_at, max_cost, max_nodes, potential_in}
use Rattle.min_cost_flow.specs.Searched.{AreSearched, Relaxes, RelaxesAll, IsNearest, distance_in, no_node, node_at, predecessor_in, settle_order_in}
use Rattle.min_cost_flow.specs.declared.arc.Arc.{Arc}
use Rattle.min_cost_flow.specs.declared.node.NodeState.{NodeState}
use Rattle.min_cost_flow.proofs.Settling.{settled_next}

-- ---- the arcs of a node, as a part of all arcs

module _ (nodes node : ℕ) (arcs : List (Option Arc)) (square : length arcs ≡ nodes * nodes) (within : node < nodes) where
  abbrev pub row_of : List (Option Arc)
  row_of = take ((node * nodes + nodes) - node * nodes) (drop (node * nodes) arcs)

  row_ends : node * nodes + nodes ≤ nodes * nodes
  row_ends = let most : (node + 1) * nodes ≤ nodes * nodes = mul-le-mul_right nodes (omega arith) in omega (arith, most)

  pub row_length : length row_of ≡ nodes
  row_length = omega (arith, length-take ((node * nodes + nodes) - node * nodes) (drop (node * nodes) arcs), length-drop (node * nodes) arcs, square, row_ends)

  pub row_at : (v : ℕ) → v < nodes → get_or row_of v None ≡ arc_at arcs nodes node v
  row_at v v_in = get_or-take ((node * nodes + nodes) - node * nodes) (drop (node * nodes) arcs) v None (omega arith) ∙ get_or-drop (node * nodes) arcs v None

  pub row_short : HasCostsWithin nodes (arc_at arcs nodes) max_cost → (v : ℕ) (a : Arc) → v < length row_of → get_or row_of v None ≡ Some a → IsShort a.cost
  row_short costs v a v_in is =
      let inside : v < nodes = omega (arith, row_length, v_in) in
      let there = sym (row_at v inside) ∙ is in
      record { low = omega (arith, ints, costs.low node v a within inside there); high = omega (arith, ints, costs.high node v a within inside there) }

-- how many nodes are not settled
abbrev pub unsettled : ℕ → List NodeState → ℕ
unsettled nodes states = count_by (λ s. nat_le nodes s.settle_order) states

-- what holds before each round
pub record IsRound (nodes : ℕ) (arcs : List (Option Arc)) (potentials : List ℤ) (wanted : List Bool) (source count : ℕ) (states : List NodeState) : Type 0 where
  pub many : length states ≡ nodes
  pub left : count + unsettled nodes states ≡ nodes
  pub searched : AreSearched nodes arcs potentials source count states
  pub unwanted : (v : ℕ) → v < nodes → settle_order_in states v < nodes → slice_get wanted v ≡ Some true → ⊥

-- distances are short after that few rounds
pub short_after : (count : ℕ) (b : ℤ) → count ≤ max_nodes → neg_ℤ (pos (count * max_cost)) ≤ℤ b → b ≤ℤ pos (count * max_cost) → IsShort b
short_after count b few low high =
    let most : count * max_cost ≤ max_nodes * max_cost = mul-le-mul_right max_cost few in
    record { low = omega (arith, ints, most, low); high = omega (arith, ints, most, high) }

test_above : (nodes r : ℕ) → nodes ≤ r → ◌≡◌ {A = ℕ} (cond (nat_le nodes r) 1 0) 1
test_above nodes r le = grind (arith, nat_tests)

test_below : (nodes r : ℕ) → r < nodes → ◌≡◌ {A = ℕ} (cond (nat_le nodes r) 1 0) 0
test_below nodes r less = grind (arith, nat_tests)

pub fewer : (nodes : ℕ) (states : List NodeState) (node : ℕ) (state : NodeState) → node < length states → nodes ≤ settle_order_in states node → state.settle_order < nodes → unsettled nodes (set states node state) + 1 ≡ unsettled nodes states
fewer nodes states node state within un small =
    omega (arith, sum_by-set (λ (s : NodeState). cond (nat_le nodes s.settle_order) 1 0) states node state no_node within, test_above nodes (settle_order_in states node) un, test_below nodes state.settle_order small)

-- as many are left where no other is settled
same_left : (nodes : ℕ) (xs ys : List NodeState) → length xs ≡ length ys → ((v : ℕ) → settle_order_in xs v ≡ settle_order_in ys v) → unsettled nodes xs ≡ unsettled nodes ys
same_left nodes [] [] many same = refl
same_left nodes [] (y ∷ ys) many same = absurd (omega arith)
same_left nodes (x ∷ xs) [] many same = absurd (omega arith)
same_left nodes (x ∷ xs) (y ∷ ys) many same =
    omega (
      arith,
      sum_by-cons (λ (s : NodeState). cond (nat_le nodes s.settle_order) 1 0) x xs,
      sum_by-cons (λ (s : NodeState). cond (nat_le nodes s.settle_order) 1 0) y ys,
      ap (λ (r : ℕ). cond {A = ℕ} (nat_le nodes r) 1 0) (same 0),
      same_left nodes xs ys (omega (arith, many)) (λ v. same (suc v)),
    )

-- where no node is settled, all are left
pub all_left : (nodes : ℕ) (states : List NodeState) → ((v : ℕ) → v < length states → nodes ≤ settle_order_in states v) → unsettled nodes states ≡ length states
all_left nodes [] un = refl
all_left nodes (s ∷ states) un =
    omega (arith, sum_by-cons (λ (t : NodeState). cond (nat_le nodes t.settle_order) 1 0) s states, test_above nodes s.settle_order (un 0 (omega arith)), all_left nodes states (λ v below. un (suc v) (omega arith)))

pub some_left : (nodes : ℕ) (states : List NodeState) (node : ℕ) → node < length states → nodes ≤ settle_order_in states node → 0 < nodes → 1 ≤ unsettled nodes states
some_left nodes states node within un some = omega (arith, fewer nodes states node (record { distance = None; predecessor = 0; settle_order = 0 }) within un some)

module _ (nodes : ℕ) (arcs : List (Option Arc)) (potentials : List ℤ) (wanted : List Bool) (source count : ℕ) (states : List NodeState) (before : IsRound nodes arcs potentials wanted source count states) where
  pub short_distances : nodes ≤ max_nodes → (v : ℕ) (a : ℤ) → v < nodes → distance_in states v ≡ Some a → IsShort a
  short_distances few v a within is = short_after count a (omega (arith, before.left)) (before.searched.low v a within is) (before.searched.high v a within is)

  module _ (node : ℕ) (node_distance : ℤ) (near : IsNearest nodes (potential_in potentials) (distance_in states) (settle_order_in states) node node_distance) where
    pub small : count < nodes
    small = omega (arith, before.left, some_left nodes states node (omega (arith, before.many, near.within)) near.unsettled (omega (arith, near.within)))

    -- the node is settled, and then its arcs are relaxed
    module _ (state : NodeState) (states' : List NodeState) (same_distance : state.distance ≡ distance_in states node) (same_predecessor : state.predecessor ≡ predecessor_in states node) (settled : state.settle_order ≡ count)
        (row : List (Option Arc)) (shown : ℤ) (many' : length states' ≡ nodes) (relaxes : RelaxesAll row node shown (set states node state) states') where
      inside : node < length states
      inside = omega (arith, before.many, near.within)

      one_fewer : unsettled nodes states' + 1 ≡ unsettled nodes states
      one_fewer =
          omega (
            arith,
            fewer nodes states node state inside near.unsettled (omega (arith, settled, small)),
            same_left nodes states' (set states node state) (omega (arith, many', length-set states node state, before.many)) relaxes.same_order,
          )

      pub falls : unsettled nodes states' < unsettled nodes states
      falls = omega (arith, one_fewer)

      at_node : node_at (set states node state) node ≡ state
      at_node = get_or-set_same states node state no_node inside

      elsewhere : (v : ℕ) → (v ≡ node → ⊥) → node_at (set states node state) v ≡ node_at states v
      elsewhere v not = get_or-set_other states node v state no_node not

      -- only the order of the node changed before its arcs were relaxed
      distance_is : (v : ℕ) → distance_in (set states node state) v ≡ distance_in states v
      distance_is v =
          ⊎_elim
          (λ (is : v ≡ node). ap (distance_in (set states node state)) is ∙ (ap (λ (s : NodeState). s.distance) at_node ∙ (same_distance ∙ ap (distance_in states) (sym is))))
          (λ (not : v ≡ node → ⊥). ap (λ (s : NodeState). s.distance) (elsewhere v not))
          (cases_eq v node)

      predecessor_is : (v : ℕ) → predecessor_in (set states node state) v ≡ predecessor_in states v
      predecessor_is v =
          ⊎_elim
          (λ (is : v ≡ node). ap (predecessor_in (set states node state)) is ∙ (ap (λ (s : NodeState). s.predecessor) at_node ∙ (same_predecessor ∙ ap (predecessor_in states) (sym is))))
          (λ (not : v ≡ node → ⊥). ap (λ (s : NodeState). s.predecessor) (elsewhere v not))
          (cases_eq v node)

      here : settle_order_in states' node ≡ count
      here = relaxes.same_order node ∙ (ap (λ (s : NodeState). s.settle_order) at_node ∙ settled)

      other : (v : ℕ) → (v ≡ node → ⊥) → settle_order_in states' v ≡ settle_order_in states v
      other v not = relaxes.same_order v ∙ ap (λ (s : NodeState). s.settle_order) (elsewhere v not)

      pub next : length row ≡ nodes → ((v : ℕ) → v < nodes → get_or row v None ≡ arc_at arcs nodes node v) → shown ≡ node_distance → source < nodes → (slice_get wanted node ≡ Some true → ⊥)
          → HasNonNegativeReducedCosts nodes (arc_at arcs nodes) (potential_in potentials) → HasCostsWithin nodes (arc_at arcs nodes) max_cost → IsRound nodes arcs potentials wanted source (count + 1) states'
      next wide row_at shown_is source_in not_wanted reduced costs = record {
        many = many';
        left = omega (arith, before.left, one_fewer);
        searched = settled_next nodes (arc_at arcs nodes) (potential_in potentials) source max_cost count (distance_in states) (distance_in states') (predecessor_in states) (predecessor_in states') (settle_order_in states) (settle_order_in states') node node_distance
            reduced costs before.searched near small here other
            (λ v within.
            subst (λ a. Relaxes nodes node node_distance a (settle_order_in states' v) (distance_in states v) (distance_in states' v) (predecessor_in states v) (predecessor_in states' v)) (row_at v within)
            (subst (λ z. Relaxes nodes node z (get_or row v None) (settle_order_in states' v) (distance_in states v) (distance_in states' v) (predecessor_in states v) (predecessor_in states' v)) shown_is
            (subst (λ n. Relaxes n node shown (get_or row v None) (settle_order_in states' v) (distance_in states v) (distance_in states' v) (predecessor_in states v) (predecessor_in states' v)) wide
            (subst (λ r. Relaxes (length row) node shown (get_or row v None) r (distance_in states v) (distance_in states' v) (predecessor_in states v) (predecessor_in states' v)) (sym (relaxes.same_order v))
            (subst (λ p. Relaxes (length row) node shown (get_or row v None) (settle_order_in (set states node state) v) (distance_in states v) (distance_in states' v) p (predecessor_in states' v)) (predecessor_is v)
            (subst (λ d. Relaxes (length row) node shown (get_or row v None) (settle_order_in (set states node state) v) d (distance_in states' v) (predecessor_in (set states node state) v) (predecessor_in states' v)) (distance_is v)
            (relaxes.each v (omega (arith, wide, within)))))))))
            source_in;
        unwanted = λ v within is_settled is.
            ⊎_elim
            (λ (same : v ≡ node). not_wanted (ap (slice_get wanted) (sym same) ∙ is))
            (λ (not : v ≡ node → ⊥). before.unwanted v within (omega (arith, other v not, is_settled)) is)
            (cases_eq v node);
      }

  -- the bounds of the last round hold after it
  pub widened : AreSearched nodes arcs potentials source nodes states
  widened =
      let s = before.searched in
      let few : count ≤ nodes = omega (arith, before.left) in
      let most : count * max_cost ≤ nodes * max_cost = mul-le-mul_right max_cost few in
      record {
        start = s.start;
        few = λ v within settled. settled;
        known = s.known;
        closed = s.closed;
        order = s.order;
        tree = s.tree;
        low = λ v b within is. omega (arith, ints, most, s.low v b within is);
        high = λ v b within is. omega (arith, ints, most, s.high v b within is);
      }
