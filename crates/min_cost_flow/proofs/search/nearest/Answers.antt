-- Each turn of the loop looks at one more node.
use Rattle.std.proofs.Common.{◌≡◌, ◌+◌, ℕ, ℤ, pos, Option, Some, None, ◌+ℤ◌, ◌-ℤ◌, ◌≤ℤ◌, length, get_or, to_z, of_z, FitsSigned, arith, sym, ◌∙◌}
use Rattle.std.proofs.lemmas.Int.{ints}
use Rattle.std.specs.Int.{w64}
use Rattle.std.proofs.lemmas.Option.{same_Some}
use Rattle.min_cost_flow.specs.Network.{IsShort, potential_in}
use Rattle.min_cost_flow.specs.Searched.{distance_in, settle_order_in}
use Rattle.min_cost_flow.proofs.Nearest.{passes, improves, renamed}
use Rattle.min_cost_flow.proofs.search.nearest.Goals as goal
use Rattle.min_cost_flow.proofs.search.nearest.Goals.{then-nodes-v+in-Some+then-is_nearer, then-nodes-v+in-Some+else-is_nearer, then-nodes-v+in_default, else-nodes-v}

difference_fits : (a b : ℤ) → IsShort a → IsShort b → FitsSigned w64 (to_z w64 (of_z w64 a) -ℤ to_z w64 (of_z w64 b))
difference_fits a b s t = omega (arith, ints, s.low, s.high, t.low, t.high)

shown : (a b : ℤ) → IsShort a → b ≡ to_z w64 (of_z w64 a) → b ≡ a
shown a b s is = omega (arith, ints, s.low, s.high, is)

restored : (a b : ℤ) → IsShort a → IsShort b → a ≡ to_z w64 (of_z w64 (to_z w64 (of_z w64 a) -ℤ to_z w64 (of_z w64 b))) +ℤ b
restored a b s t = omega (arith, ints, s.low, s.high, t.low, t.high)

not_less : (found pot : ℤ) (distance least : Option ℤ) → IsShort found → IsShort pot → distance ≡ Some found
    → (x : ℤ) × (least ≡ Some x) × (x ≤ℤ to_z w64 (of_z w64 (to_z w64 (of_z w64 found) -ℤ to_z w64 (of_z w64 pot))))
    → (b : ℤ) → distance ≡ Some b → (k : ℤ) × (least ≡ Some k) × ((k +ℤ pot) ≤ℤ b)
not_less found pot distance least s t is known b b_is =
    let same : found ≡ b = same_Some found b (sym is ∙ b_is) in
    (known.0, known.1, omega (arith, ints, s.low, s.high, t.low, t.high, known.2, same))

pub overflow_sub-reduced : goal.overflow_sub-reduced
overflow_sub-reduced c = difference_fits c.in-Some.distance (potential_in c.args.potentials.now c.loop-v.v) (c.requires.distance c.loop-v.v c.in-Some.distance c.loop-v-test.true c.in-Some.is) (c.requires.potential c.loop-v.v c.loop-v-test.true)

pub loop-v-preserved : goal.loop-v-preserved
loop-v-preserved c =
    let n : ℕ = length c.args.nodes.now in
    let v = c.loop-v.v in
    let pot : ℕ → ℤ = potential_in c.args.potentials.now in
    let distance : ℕ → Option ℤ = distance_in c.args.nodes.now in
    let rank : ℕ → ℕ = settle_order_in c.args.nodes.now in
    let pass = passes n pot distance rank c.loop-v.least c.loop-v.node (to_z w64 c.loop-v.node_distance-bits) v c.loop-v.invariant c.loop-v-test.true in
    let same = renamed n pot distance rank c.loop-v.least c.if-nodes-v.least c.loop-v.node c.if-nodes-v.node (to_z w64 c.loop-v.node_distance-bits) (to_z w64 c.if-nodes-v.node_distance-bits) (v + 1) in
    elim c.if-nodes-v.branch [
      | then-nodes-v+in-Some+then-is_nearer w ↦
          let distance_short = c.requires.distance v w.in-Some.distance c.loop-v-test.true w.in-Some.is in
          let new : ℤ = to_z w64 (of_z w64 (to_z w64 (of_z w64 w.in-Some.distance) -ℤ to_z w64 (of_z w64 (pot v)))) in
          renamed n pot distance rank (Some new) c.if-nodes-v.least v c.if-nodes-v.node w.in-Some.distance (to_z w64 c.if-nodes-v.node_distance-bits) (v + 1) w.least-is w.node-is (shown w.in-Some.distance _ distance_short w.node_distance-is)
          (improves n pot distance rank c.loop-v.least c.loop-v.node (to_z w64 c.loop-v.node_distance-bits) v c.loop-v.invariant c.loop-v-test.true new w.in-Some.distance w.if-nodes-v.true w.in-Some.is (restored w.in-Some.distance (pot v) distance_short (c.requires.potential v c.loop-v-test.true)) w.if-is_nearer.ensures)
      | then-nodes-v+in-Some+else-is_nearer w ↦
          let distance_short = c.requires.distance v w.in-Some.distance c.loop-v-test.true w.in-Some.is in
          same w.least-is w.node-is w.node_distance-is (pass (λ b un b_is. not_less w.in-Some.distance (pot v) (distance v) c.loop-v.least distance_short (c.requires.potential v c.loop-v-test.true) w.in-Some.is w.if-is_nearer.ensures b b_is))
      | then-nodes-v+in_default w ↦ same w.least-is w.node-is w.node_distance-is (pass (λ b un is. absurd (w.in_default.not-Some b is)))
      | else-nodes-v w ↦ same w.least-is w.node-is w.node_distance-is (pass (λ b un is. absurd (omega (arith, un, w.if-nodes-v.false))))
    ]

pub returns-in-Some-least : goal.returns-in-Some-least
returns-in-Some-least c =
    let n : ℕ = length c.args.nodes.now in
    let l = c.loop-v.invariant in
    let best = l.some c.in-Some-least.field-0 c.in-Some-least.is in
    record {
      within = best.0;
      unsettled = best.1;
      reached = best.2;
      least = λ v b v_in un is. omega (arith, ints, best.3, l.below c.in-Some-least.field-0 v b c.in-Some-least.is (omega (arith, c.loop-v-test.false)) un is);
    }
