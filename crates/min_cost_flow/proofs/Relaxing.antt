-- A loop over the arcs of a node: which nodes it has looked at.
use Rattle.std.proofs.Common.{◌≡◌, ℕ, ◌+◌, ◌<◌, ◌≤◌, inl, inr, ⊎_elim, ℤ, ◌+ℤ◌, ◌≤ℤ◌, List, length, get_or, set, Option, Some, None, refl, sym, ap, ◌∙◌, subst, arith}
use Rattle.std.proofs.lemmas.Bool.{cases_eq}
use Rattle.std.proofs.lemmas.Int.{ints}
use Rattle.std.proofs.lemmas.List.{get_or-set_same, get_or-set_other, length-set}
use Rattle.min_cost_flow.specs.Searched.{Stays, Relaxes, distance_in, no_node, node_at, predecessor_in, settle_order_in}
use Rattle.min_cost_flow.specs.declared.arc.Arc.{Arc}
use Rattle.min_cost_flow.specs.declared.node.NodeState.{NodeState}

-- the arc to a node is relaxed, by what is known of the node before and after
abbrev pub RelaxesOne : ℕ → ℕ → ℤ → Option Arc → NodeState → NodeState → Type 0
RelaxesOne count node node_distance arc old new = Relaxes count node node_distance arc old.settle_order old.distance new.distance old.predecessor new.predecessor

-- the nodes below `v` are looked at, and the others as they were
pub record RelaxesBelow (count node : ℕ) (node_distance : ℤ) (arcs : List (Option Arc)) (nodes nodes' : List NodeState) (v : ℕ) : Type 0 where
  pub many : length nodes' ≡ count
  pub done : (w : ℕ) → w < v → RelaxesOne count node node_distance (get_or arcs w None) (node_at nodes w) (node_at nodes' w)
  pub rest : (w : ℕ) → v ≤ w → node_at nodes' w ≡ node_at nodes w
  pub order : (w : ℕ) → settle_order_in nodes' w ≡ settle_order_in nodes w

module _ (count node : ℕ) (node_distance : ℤ) (arcs : List (Option Arc)) (nodes nodes' nodes'' : List NodeState) (v : ℕ) (within : v < count) (before : RelaxesBelow count node node_distance arcs nodes nodes' v) where
  -- what is known of the node itself is not yet looked at
  here : node_at nodes' v ≡ node_at nodes v
  here = before.rest v (omega arith)

  pub keeps : nodes'' ≡ nodes' → ((a : Arc) → count ≤ settle_order_in nodes' v → get_or arcs v None ≡ Some a → (known : ℤ) × (distance_in nodes' v ≡ Some known) × (known ≤ℤ (node_distance +ℤ a.cost)))
      → RelaxesBelow count node node_distance arcs nodes nodes'' (v + 1)
  keeps same covers =
      let at : (w : ℕ) → node_at nodes'' w ≡ node_at nodes' w = λ w. ap (λ xs. node_at xs w) same in
      record {
        many = ap length same ∙ before.many;
        done = λ w below.
            subst (RelaxesOne count node node_distance (get_or arcs w None) (node_at nodes w)) (sym (at w))
            (⊎_elim
            (λ (is : w ≡ v).
            let stays = before.rest w (omega (arith, is)) in
            record {
              change = inl (record { same_distance = ap (λ (s : NodeState). s.distance) stays; same_predecessor = ap (λ (s : NodeState). s.predecessor) stays });
              covers = λ a unsettled there.
                  let known = covers a (subst (λ k. count ≤ settle_order_in nodes' k) is (subst (λ (s : NodeState). count ≤ s.settle_order) (sym stays) unsettled)) (ap (λ k. get_or arcs k None) (sym is) ∙ there) in
                  (known.0, ap (distance_in nodes') is ∙ known.1, known.2);
            })
            (λ (not : w ≡ v → ⊥). before.done w (omega (arith, not)))
            (cases_eq w v));
        rest = λ w above. at w ∙ before.rest w (omega arith);
        order = λ w. ap (λ (s : NodeState). s.settle_order) (at w) ∙ before.order w;
      }

  pub takes : (a : Arc) (new : ℤ) (state : NodeState) → nodes'' ≡ set nodes' v state → state.distance ≡ Some new → state.predecessor ≡ node → state.settle_order ≡ settle_order_in nodes' v
      → count ≤ settle_order_in nodes' v → get_or arcs v None ≡ Some a → new ≡ node_distance +ℤ a.cost
      → ((known : ℤ) → distance_in nodes' v ≡ Some known → new ≤ℤ known) → RelaxesBelow count node node_distance arcs nodes nodes'' (v + 1)
  takes a new state written distance_is predecessor_is order_is unsettled there sum less =
      let now : node_at nodes'' v ≡ state = ap (λ xs. node_at xs v) written ∙ get_or-set_same nodes' v state no_node (omega (arith, before.many)) in
      let other : (w : ℕ) → (w ≡ v → ⊥) → node_at nodes'' w ≡ node_at nodes' w = λ w not. ap (λ xs. node_at xs w) written ∙ get_or-set_other nodes' v w state no_node not in
      let distance_now : distance_in nodes'' v ≡ Some (node_distance +ℤ a.cost) = ap (λ (s : NodeState). s.distance) now ∙ (distance_is ∙ ap Some sum) in
      let relaxed : RelaxesOne count node node_distance (get_or arcs v None) (node_at nodes v) (node_at nodes'' v) =
      record {
        change = inr (record {
          along = a;
          there = there;
          unsettled = subst (λ (s : NodeState). count ≤ s.settle_order) here unsettled;
          new_distance = distance_now;
          new_predecessor = ap (λ (s : NodeState). s.predecessor) now ∙ predecessor_is;
          less = λ known known_is. omega (arith, ints, sum, less known (ap (λ (s : NodeState). s.distance) here ∙ known_is));
        });
        covers = λ b un there_too.
            let one : Some a ≡ Some b = sym there ∙ there_too in
            let same : a ≡ b = cc in
            (node_distance +ℤ a.cost, distance_now, omega (arith, ints, ap (λ (r : Arc). r.cost) same));
      } in
      record {
        many = ap length written ∙ (length-set nodes' v state ∙ before.many);
        done = λ w below.
            ⊎_elim
            (λ (is : w ≡ v). subst (λ k. RelaxesOne count node node_distance (get_or arcs k None) (node_at nodes k) (node_at nodes'' k)) (sym is) relaxed)
            (λ (not : w ≡ v → ⊥). subst (RelaxesOne count node node_distance (get_or arcs w None) (node_at nodes w)) (sym (other w not)) (before.done w (omega (arith, not))))
            (cases_eq w v);
        rest = λ w above. other w (λ is. absurd (omega (arith, is))) ∙ before.rest w (omega arith);
        order = λ w.
            ⊎_elim
            (λ (is : w ≡ v). ap (settle_order_in nodes'') is ∙ (ap (λ (s : NodeState). s.settle_order) now ∙ (order_is ∙ (ap (λ (s : NodeState). s.settle_order) here ∙ ap (settle_order_in nodes) (sym is)))))
            (λ (not : w ≡ v → ⊥). ap (λ (s : NodeState). s.settle_order) (other w not) ∙ before.order w)
            (cases_eq w v);
      }
