-- Settling the nearest node keeps what a search knows, and lowering potentials keeps reduced costs from being negative.
use Rattle.std.proofs.Common.{◌≡◌, ℕ, ◌+◌, ◌*◌, ◌<◌, ◌≤◌, ◌⊎◌, inl, inr, ⊎_elim, ℤ, pos, ◌+ℤ◌, ◌-ℤ◌, ◌≤ℤ◌, neg_ℤ, Option, Some, sym, ap, ◌∙◌, arith}
use Rattle.std.proofs.lemmas.Bool.{cases_eq, cases_lt}
use Rattle.std.proofs.lemmas.Int.{ints}
use Rattle.std.proofs.lemmas.Option.{same_Some}
use Rattle.min_cost_flow.specs.Network.{HasNonNegativeReducedCosts, HasCostsWithin}
use Rattle.min_cost_flow.specs.Searched.{Stays, Improves, Relaxes, HasPredecessor, IsSearched, IsNearest, IsTight, Lowers}
use Rattle.min_cost_flow.specs.declared.arc.Arc.{Arc}

more-times : (count most : ℕ) → (count + 1) * most ≡ count * most + most
more-times count most = omega arith

-- `node` is settled with the rank `count`, and its arcs are looked along
module _ (nodes : ℕ) (arc : ℕ → ℕ → Option Arc) (potential : ℕ → ℤ) (source most count : ℕ) (distance distance' : ℕ → Option ℤ) (predecessor predecessor' rank rank' : ℕ → ℕ) (node : ℕ) (node_distance : ℤ)
    (reduced : HasNonNegativeReducedCosts nodes arc potential) (costs : HasCostsWithin nodes arc most) (before : IsSearched nodes arc potential source most count distance predecessor rank)
    (near : IsNearest nodes potential distance rank node node_distance) (small : count < nodes)
    (here : rank' node ≡ count) (others : (v : ℕ) → (v ≡ node → ⊥) → rank' v ≡ rank v)
    (each : (v : ℕ) → v < nodes → Relaxes nodes node node_distance (arc node v) (rank' v) (distance v) (distance' v) (predecessor v) (predecessor' v)) where
  -- a settled node is not this one before
  other_from_settled : (v : ℕ) → rank v < nodes → (v ≡ node → ⊥)
  other_from_settled v settled is = absurd (omega (arith, near.unsettled, ap rank is))

  stays_settled : (v : ℕ) → v < nodes → rank' v < nodes → Stays (distance v) (distance' v) (predecessor v) (predecessor' v)
  stays_settled v within settled =
      ⊎_elim
      (λ (s : Stays (distance v) (distance' v) (predecessor v) (predecessor' v)). s)
      (λ (m : Improves nodes node node_distance (arc node v) (rank' v) (distance v) (distance' v) (predecessor' v)). absurd (omega (arith, m.unsettled)))
      ((each v within).change)

  still_settled : (v : ℕ) → rank v < nodes → rank' v ≡ rank v
  still_settled v settled = others v (other_from_settled v settled)

  node_stays : Stays (distance node) (distance' node) (predecessor node) (predecessor' node)
  node_stays = stays_settled node near.within (omega (arith, here))

  few' : (v : ℕ) → v < nodes → rank' v < nodes → rank' v < count + 1
  few' v within settled =
      ⊎_elim
      (λ (is : v ≡ node). omega (arith, ap rank' is, here))
      (λ (not : v ≡ node → ⊥). let same = others v not in omega (arith, same, before.few v within (omega (arith, same))))
      (cases_eq v node)

  known' : (v : ℕ) → v < nodes → rank' v < nodes → (a : ℤ) × (distance' v ≡ Some a)
  known' v within settled =
      ⊎_elim
      (λ (is : v ≡ node). (node_distance, ap distance' is ∙ (node_stays.same_distance ∙ near.reached)))
      (λ (not : v ≡ node → ⊥).
      let old = before.known v within (omega (arith, others v not)) in
      (old.0, (stays_settled v within settled).same_distance ∙ old.1))
      (cases_eq v node)

  closed_from_node : (v : ℕ) (r : Arc) → v < nodes → arc node v ≡ Some r → (b : ℤ) × (distance' v ≡ Some b) × (b ≤ℤ (node_distance +ℤ r.cost))
  closed_from_node v r within there =
      let rc = reduced.least node v r near.within within there in
      ⊎_elim
      (λ (settled : rank' v < nodes).
      ⊎_elim
      (λ (is : v ≡ node). (node_distance, ap distance' is ∙ (node_stays.same_distance ∙ near.reached), omega (arith, ints, rc, ap potential is)))
      (λ (not : v ≡ node → ⊥).
      let was : rank v < nodes = omega (arith, others v not) in
      let old = before.known v within was in
      let order = before.order v node old.0 node_distance within near.within was near.unsettled old.1 near.reached in
      (old.0, (stays_settled v within settled).same_distance ∙ old.1, omega (arith, ints, rc, order)))
      (cases_eq v node))
      (λ (unsettled : nodes ≤ rank' v). (each v within).covers r unsettled there)
      (cases_lt (rank' v) nodes)

  closed' : (u v : ℕ) (a : ℤ) (r : Arc) → u < nodes → v < nodes → rank' u < nodes → distance' u ≡ Some a → arc u v ≡ Some r → (b : ℤ) × (distance' v ≡ Some b) × (b ≤ℤ (a +ℤ r.cost))
  closed' u v a r u_in v_in settled is there =
      ⊎_elim
      (λ (same : u ≡ node).
      let a_is : node_distance ≡ a = same_Some node_distance a (sym near.reached ∙ (sym node_stays.same_distance ∙ (ap distance' (sym same) ∙ is))) in
      let next = closed_from_node v r v_in (ap (λ n. arc n v) (sym same) ∙ there) in
      (next.0, next.1, omega (arith, ints, next.2, a_is)))
      (λ (not : u ≡ node → ⊥).
      let was : rank u < nodes = omega (arith, others u not) in
      let old = before.closed u v a r u_in v_in was (sym (stays_settled u u_in settled).same_distance ∙ is) there in
      ⊎_elim
      (λ (s : Stays (distance v) (distance' v) (predecessor v) (predecessor' v)). (old.0, s.same_distance ∙ old.1, old.2))
      (λ (m : Improves nodes node node_distance (arc node v) (rank' v) (distance v) (distance' v) (predecessor' v)). (node_distance +ℤ m.along.cost, m.new_distance, omega (arith, ints, m.less old.0 old.1, old.2)))
      ((each v v_in).change))
      (cases_eq u node)

  -- an unsettled node's length, and that it is no nearer than the one that was settled
  no_nearer : (v : ℕ) (b : ℤ) → v < nodes → nodes ≤ rank' v → distance' v ≡ Some b → (node_distance +ℤ potential v) ≤ℤ (b +ℤ potential node)
  no_nearer v b within unsettled is =
      let not : v ≡ node → ⊥ = λ same. absurd (omega (arith, ap rank' same, here)) in
      ⊎_elim
      (λ (s : Stays (distance v) (distance' v) (predecessor v) (predecessor' v)). near.least v b within (omega (arith, others v not)) (sym s.same_distance ∙ is))
      (λ (m : Improves nodes node node_distance (arc node v) (rank' v) (distance v) (distance' v) (predecessor' v)).
      let b_is : node_distance +ℤ m.along.cost ≡ b = same_Some (node_distance +ℤ m.along.cost) b (sym m.new_distance ∙ is) in
      omega (arith, ints, b_is, reduced.least node v m.along near.within within m.there))
      ((each v within).change)

  order' : (u v : ℕ) (a b : ℤ) → u < nodes → v < nodes → rank' u < nodes → nodes ≤ rank' v → distance' u ≡ Some a → distance' v ≡ Some b → (a +ℤ potential v) ≤ℤ (b +ℤ potential u)
  order' u v a b u_in v_in settled unsettled u_is v_is =
      let far = no_nearer v b v_in unsettled v_is in
      ⊎_elim
      (λ (same : u ≡ node).
      let a_is : node_distance ≡ a = same_Some node_distance a (sym near.reached ∙ (sym node_stays.same_distance ∙ (ap distance' (sym same) ∙ u_is))) in
      omega (arith, ints, far, a_is, ap potential same))
      (λ (not : u ≡ node → ⊥).
      let was : rank u < nodes = omega (arith, others u not) in
      let old = before.order u node a node_distance u_in near.within was near.unsettled (sym (stays_settled u u_in settled).same_distance ∙ u_is) near.reached in
      omega (arith, ints, far, old))
      (cases_eq u node)

  kept_child : (v : ℕ) (b : ℤ) → v < nodes → predecessor' v ≡ predecessor v → HasPredecessor nodes arc distance predecessor rank v b → HasPredecessor nodes arc distance' predecessor' rank' v b
  kept_child v b within same child =
      let p = predecessor v in
      let settled : rank' p < nodes = omega (arith, still_settled p child.settled, child.settled) in
      let lower : rank' p < rank' v =
      ⊎_elim
      (λ (is : v ≡ node). omega (arith, ap rank' is, here, still_settled p child.settled, before.few p child.within child.settled))
      (λ (not : v ≡ node → ⊥). omega (arith, others v not, still_settled p child.settled, child.before))
      (cases_eq v node)
      in
      record {
        within = omega (arith, same, child.within);
        settled = omega (arith, ap rank' same, settled);
        before = omega (arith, ap rank' same, lower);
        predecessor_distance = child.predecessor_distance;
        reached = ap distance' same ∙ ((stays_settled p child.within settled).same_distance ∙ child.reached);
        along = child.along;
        there = ap (λ n. arc n v) same ∙ child.there;
        sum = child.sum;
      }

  tree' : (v : ℕ) (b : ℤ) → v < nodes → distance' v ≡ Some b → (v ≡ source) ⊎ HasPredecessor nodes arc distance' predecessor' rank' v b
  tree' v b within is =
      ⊎_elim
      (λ (s : Stays (distance v) (distance' v) (predecessor v) (predecessor' v)).
      ⊎_elim
      (λ (root : v ≡ source). inl root)
      (λ (child : HasPredecessor nodes arc distance predecessor rank v b). inr (kept_child v b within s.same_predecessor child))
      (before.tree v b within (sym s.same_distance ∙ is)))
      (λ (m : Improves nodes node node_distance (arc node v) (rank' v) (distance v) (distance' v) (predecessor' v)).
      let b_is : node_distance +ℤ m.along.cost ≡ b = same_Some (node_distance +ℤ m.along.cost) b (sym m.new_distance ∙ is) in
      inr (record {
        within = omega (arith, m.new_predecessor, near.within);
        settled = omega (arith, ap rank' m.new_predecessor, here);
        before = omega (arith, ap rank' m.new_predecessor, here, m.unsettled);
        predecessor_distance = node_distance;
        reached = ap distance' m.new_predecessor ∙ (node_stays.same_distance ∙ near.reached);
        along = m.along;
        there = ap (λ n. arc n v) m.new_predecessor ∙ m.there;
        sum = sym b_is;
      }))
      ((each v within).change)

  low' : (v : ℕ) (b : ℤ) → v < nodes → distance' v ≡ Some b → neg_ℤ (pos ((count + 1) * most)) ≤ℤ b
  low' v b within is =
      ⊎_elim
      (λ (s : Stays (distance v) (distance' v) (predecessor v) (predecessor' v)). omega (arith, ints, more-times count most, before.low v b within (sym s.same_distance ∙ is)))
      (λ (m : Improves nodes node node_distance (arc node v) (rank' v) (distance v) (distance' v) (predecessor' v)).
      let b_is : node_distance +ℤ m.along.cost ≡ b = same_Some (node_distance +ℤ m.along.cost) b (sym m.new_distance ∙ is) in
      omega (arith, ints, more-times count most, b_is, before.low node node_distance near.within near.reached, costs.low node v m.along near.within within m.there))
      ((each v within).change)

  high' : (v : ℕ) (b : ℤ) → v < nodes → distance' v ≡ Some b → b ≤ℤ pos ((count + 1) * most)
  high' v b within is =
      ⊎_elim
      (λ (s : Stays (distance v) (distance' v) (predecessor v) (predecessor' v)). omega (arith, ints, more-times count most, before.high v b within (sym s.same_distance ∙ is)))
      (λ (m : Improves nodes node node_distance (arc node v) (rank' v) (distance v) (distance' v) (predecessor' v)).
      let b_is : node_distance +ℤ m.along.cost ≡ b = same_Some (node_distance +ℤ m.along.cost) b (sym m.new_distance ∙ is) in
      omega (arith, ints, more-times count most, b_is, before.high node node_distance near.within near.reached, costs.high node v m.along near.within within m.there))
      ((each v within).change)

  pub settled_next : source < nodes → IsSearched nodes arc potential source most (count + 1) distance' predecessor' rank'
  settled_next source_in = record {
    start =
        ⊎_elim
        (λ (s : Stays (distance source) (distance' source) (predecessor source) (predecessor' source)). (before.start.0, s.same_distance ∙ before.start.1))
        (λ (m : Improves nodes node node_distance (arc node source) (rank' source) (distance source) (distance' source) (predecessor' source)). (node_distance +ℤ m.along.cost, m.new_distance))
        ((each source source_in).change);
    few = few';
    known = known';
    closed = closed';
    order = order';
    tree = tree';
    low = low';
    high = high';
  }

-- ---- the potentials after a search that found its node

module _ (nodes : ℕ) (arc : ℕ → ℕ → Option Arc) (potential potential' : ℕ → ℤ) (source most count : ℕ) (distance : ℕ → Option ℤ) (predecessor rank : ℕ → ℕ) (node : ℕ) (node_distance : ℤ)
    (reduced : HasNonNegativeReducedCosts nodes arc potential) (search : IsSearched nodes arc potential source most count distance predecessor rank)
    (near : IsNearest nodes potential distance rank node node_distance) (lowers : Lowers nodes potential potential' distance rank node node_distance) where
  least' : (u v : ℕ) (r : Arc) → u < nodes → v < nodes → arc u v ≡ Some r → potential' v ≤ℤ (potential' u +ℤ r.cost)
  least' u v r u_in v_in there =
      let rc = reduced.least u v r u_in v_in there in
      ⊎_elim
      (λ (u_settled : rank u < nodes).
      let a = search.known u u_in u_settled in
      let pu = lowers.settled u a.0 u_in u_settled a.1 in
      let b = search.closed u v a.0 r u_in v_in u_settled a.1 there in
      ⊎_elim
      (λ (v_settled : rank v < nodes). omega (arith, ints, b.2, pu, lowers.settled v b.0 v_in v_settled b.1))
      (λ (v_un : nodes ≤ rank v). omega (arith, ints, b.2, pu, lowers.others v v_in v_un, near.least v b.0 v_in v_un b.1))
      (cases_lt (rank v) nodes))
      (λ (u_un : nodes ≤ rank u).
      let pu = lowers.others u u_in u_un in
      ⊎_elim
      (λ (v_settled : rank v < nodes).
      let b = search.known v v_in v_settled in
      omega (arith, ints, rc, pu, lowers.settled v b.0 v_in v_settled b.1, search.order v node b.0 node_distance v_in near.within v_settled near.unsettled b.1 near.reached))
      (λ (v_un : nodes ≤ rank v). omega (arith, ints, rc, pu, lowers.others v v_in v_un))
      (cases_lt (rank v) nodes))
      (cases_lt (rank u) nodes)

  pub still_reduced : HasNonNegativeReducedCosts nodes arc potential'
  still_reduced = record { least = least' }

  -- the potential of a node by its length: a settled one, or the one that was found
  by_distance : (v : ℕ) (a : ℤ) → v < nodes → (rank v < nodes) ⊎ (v ≡ node) → distance v ≡ Some a → potential' v ≡ ((potential node +ℤ a) -ℤ node_distance)
  by_distance v a within on is =
      ⊎_elim
      (λ (settled : rank v < nodes). lowers.settled v a within settled is)
      (λ (same : v ≡ node).
      let a_is : node_distance ≡ a = same_Some node_distance a (sym near.reached ∙ (ap distance (sym same) ∙ is)) in
      let stays : potential' node ≡ potential node = lowers.others node near.within near.unsettled in
      omega (arith, ints, a_is, ap potential' same, stays))
      on

  tight_child : (v : ℕ) (a : ℤ) → v < nodes → (rank v < nodes) ⊎ (v ≡ node) → distance v ≡ Some a → HasPredecessor nodes arc distance predecessor rank v a → IsTight nodes arc potential' predecessor rank v
  tight_child v a within on is child =
      let here = by_distance v a within on is in
      let there = by_distance (predecessor v) child.predecessor_distance child.within (inl child.settled) child.reached in
      record {
        within = child.within;
        settled = child.settled;
        before = child.before;
        along = child.along;
        there = child.there;
        zero = omega (arith, ints, here, there, child.sum);
      }

  reached_by : (v : ℕ) → v < nodes → (rank v < nodes) ⊎ (v ≡ node) → (a : ℤ) × (distance v ≡ Some a)
  reached_by v within on =
      ⊎_elim
      (λ (settled : rank v < nodes). search.known v within settled)
      (λ (same : v ≡ node). (node_distance, ap distance same ∙ near.reached))
      on

  -- on the paths that were found reduced costs are 0
  pub tight : (v : ℕ) → v < nodes → (rank v < nodes) ⊎ (v ≡ node) → (v ≡ source) ⊎ IsTight nodes arc potential' predecessor rank v
  tight v within on =
      let known = reached_by v within on in
      ⊎_elim
      (λ (root : v ≡ source). inl root)
      (λ (child : HasPredecessor nodes arc distance predecessor rank v known.0). inr (tight_child v known.0 within on known.1 child))
      (search.tree v known.0 within known.1)
