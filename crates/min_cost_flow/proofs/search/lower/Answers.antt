-- Each turn of the loop lowers one more potential.
use Rattle.std.proofs.Common.{ℕ, ℤ, Option, length, to_z, of_z, arith}
use Rattle.std.specs.Int.{w64}
use Rattle.min_cost_flow.specs.Network.{potential_in}
use Rattle.min_cost_flow.specs.Searched.{distance_in, settle_order_in}
use Rattle.min_cost_flow.proofs.Lowering.{kept_short, kept_sum, skips, sets}
use Rattle.min_cost_flow.proofs.search.lower.Goals as goal
use Rattle.min_cost_flow.proofs.search.lower.Goals.{then-nodes-v+in-Some, then-nodes-v+in_default, else-nodes-v}

pub lowered-requires-clause-node_potential : goal.lowered-requires-clause-node_potential
lowered-requires-clause-node_potential c = kept_short (potential_in c.args.potentials.now c.args.node) (c.requires.short.potential c.args.node c.requires.node)

pub loop-v-preserved : goal.loop-v-preserved
loop-v-preserved c =
    let n : ℕ = length c.args.nodes.now in
    let v = c.loop-v.v in
    let distance : ℕ → Option ℤ = distance_in c.args.nodes.now in
    let rank : ℕ → ℕ = settle_order_in c.args.nodes.now in
    let node_potential : ℤ = to_z w64 (of_z w64 (potential_in c.args.potentials.now c.args.node)) in
    let node_distance : ℤ = to_z w64 (of_z w64 c.args.node_distance) in
    let skip = skips n c.args.potentials.now c.loop-v.potentials c.if-nodes-v.potentials distance rank node_potential node_distance v c.loop-v.invariant c.loop-v-test.true in
    elim c.if-nodes-v.branch [
      | then-nodes-v+in-Some w ↦
          sets n c.args.potentials.now c.loop-v.potentials c.if-nodes-v.potentials distance rank node_potential node_distance v c.loop-v.invariant c.loop-v-test.true w.in-Some.distance _ w.potentials-is w.if-nodes-v.true w.in-Some.is
          (kept_sum w.lowered.result (potential_in c.args.potentials.now c.args.node) w.in-Some.distance c.args.node_distance (c.requires.short.potential c.args.node c.requires.node) (c.requires.short.distance v w.in-Some.distance c.loop-v-test.true w.in-Some.is) c.requires.node_distance w.lowered.ensures)
      | then-nodes-v+in_default w ↦ skip w.potentials-is (λ a settled is. w.in_default.not-Some a is)
      | else-nodes-v w ↦ skip w.potentials-is (λ a settled is. absurd (omega (arith, settled, w.if-nodes-v.false)))
    ]
