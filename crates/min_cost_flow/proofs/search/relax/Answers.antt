-- Each turn of the loop looks at one more node.
use Rattle.std.proofs.Common.{◌≡◌, ℕ, ℤ, Option, Some, None, ◌+ℤ◌, ◌≤ℤ◌, length, get_or, to_z, of_z, arith, refl, sym, ap, ◌∙◌}
use Rattle.std.proofs.lemmas.Int.{ints}
use Rattle.std.specs.Int.{w64}
use Rattle.min_cost_flow.specs.Network.{IsShort}
use Rattle.min_cost_flow.specs.Searched.{distance_in}
use Rattle.min_cost_flow.specs.declared.arc.Arc.{Arc}
use Rattle.min_cost_flow.proofs.Relaxing.{keeps, takes}
use Rattle.min_cost_flow.proofs.search.relax.Goals as goal
use Rattle.min_cost_flow.proofs.search.relax.Goals.{then-nodes-v+in-Some+then-is_nearer, then-nodes-v+in-Some+else-is_nearer, then-nodes-v+in_default, else-nodes-v}

sum_is : (node_distance cost : ℤ) → IsShort node_distance → IsShort cost → to_z w64 (of_z w64 (to_z w64 (of_z w64 node_distance) +ℤ to_z w64 (of_z w64 cost))) ≡ to_z w64 (of_z w64 node_distance) +ℤ cost
sum_is node_distance cost a b = omega (arith, ints, a.low, a.high, b.low, b.high)

covered : (arc : Option Arc) (r : Arc) (known : Option ℤ) (node_distance new : ℤ) → arc ≡ Some r → new ≡ node_distance +ℤ r.cost → (other : ℤ) × (known ≡ Some other) × (other ≤ℤ new)
    → (a : Arc) → arc ≡ Some a → (other : ℤ) × (known ≡ Some other) × (other ≤ℤ (node_distance +ℤ a.cost))
covered arc r known node_distance new is sum less a there =
    let one : Some r ≡ Some a = sym is ∙ there in
    let same : r ≡ a = cc in
    (less.0, less.1, omega (arith, ints, less.2, sum, ap (λ (x : Arc). x.cost) same))

pub loop-v-preserved : goal.loop-v-preserved
loop-v-preserved c =
    let arcs = c.args.arcs.now in
    let n : ℕ = length arcs in
    let v = c.loop-v.v in
    let node_distance : ℤ = to_z w64 (of_z w64 c.args.node_distance) in
    let keep = keeps n c.args.node node_distance arcs c.args.nodes.now c.loop-v.nodes c.if-nodes-v.nodes v c.loop-v-test.true c.loop-v.invariant in
    let take = takes n c.args.node node_distance arcs c.args.nodes.now c.loop-v.nodes c.if-nodes-v.nodes v c.loop-v-test.true c.loop-v.invariant in
    elim c.if-nodes-v.branch [
      | then-nodes-v+in-Some+then-is_nearer w ↦
          take w.in-Some.arc _ _ w.nodes-is refl refl refl w.if-nodes-v.true w.in-Some.is (sum_is c.args.node_distance w.in-Some.arc.cost c.requires.node_distance (c.requires.costs v w.in-Some.arc c.loop-v-test.true w.in-Some.is)) w.if-is_nearer.ensures
      | then-nodes-v+in-Some+else-is_nearer w ↦
          keep w.nodes-is (λ a un there. covered (get_or arcs v None) w.in-Some.arc (distance_in c.loop-v.nodes v) node_distance _ w.in-Some.is (sum_is c.args.node_distance w.in-Some.arc.cost c.requires.node_distance (c.requires.costs v w.in-Some.arc c.loop-v-test.true w.in-Some.is)) w.if-is_nearer.ensures a there)
      | then-nodes-v+in_default w ↦ keep w.nodes-is (λ a un there. absurd (w.in_default.not-Some a there))
      | else-nodes-v w ↦ keep w.nodes-is (λ a un there. absurd (omega (arith, un, w.if-nodes-v.false)))
    ]
