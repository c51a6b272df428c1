use Rattle.std.proofs.Common.{◌≡◌, ◌*◌, drop, map}
use Rattle.logic_ast.specs.View.{node_view, nodes_view, buckets_view}
use Rattle.logic_eval.specs.Budget.{paid}
use Rattle.logic_eval.specs.Evaluated.{tested_meanings, conditional_meanings, truth_meanings}
use Rattle.logic_eval.specs.Evaluation.{meaning, bucket_meanings, pairs}
use Rattle.logic_eval.specs.Operators.{values, conditional, first_of_truth, mapped, kept, occurs, reduced}
use Rattle.logic_eval.specs.Views.{progress, scope_view, default_view, weighted_variant_view}
use Rattle.logic_values.specs.Views.{value_view}
use Rattle.logic_eval.proofs.Values.{prepended}
use Rattle.logic_eval.proofs.nodes.+evaluate.Given as goal

abbrev pub invariant-evaluate_all-loop-node : goal.invariant-evaluate_all-loop-node
invariant-evaluate_all-loop-node l =
    paid (progress l.fn.meter) (values (tested_meanings l.tested (default_view l.subject) (nodes_view l.node-items)) (scope_view l.scope))
    ≡ prepended (map value_view l.values.items) (paid (progress l.meter) (values (tested_meanings l.tested (default_view l.subject) (nodes_view (drop l.node-index l.node-items))) (scope_view l.scope)))

abbrev pub invariant-conditional-loop-pair : goal.invariant-conditional-loop-pair
invariant-conditional-loop-pair l =
    paid (progress l.fn.meter) (conditional (conditional_meanings (default_view l.subject) (nodes_view l.nodes.items)) (scope_view l.scope))
    ≡ paid (progress l.meter) (conditional (conditional_meanings (default_view l.subject) (nodes_view (drop (2 * l.pair) l.nodes.items))) (scope_view l.scope))

abbrev pub invariant-first_of_truth-loop-place : goal.invariant-first_of_truth-loop-place
invariant-first_of_truth-loop-place l =
    paid (progress l.fn.meter) (first_of_truth l.wanted (truth_meanings l.wanted l.tested (default_view l.subject) (nodes_view l.nodes.items)) (scope_view l.scope))
    ≡ paid (progress l.meter) (first_of_truth l.wanted (truth_meanings l.wanted l.tested (default_view l.subject) (nodes_view (drop l.place l.nodes.items))) (scope_view l.scope))

abbrev pub invariant-mapped-loop-item : goal.invariant-mapped-loop-item
invariant-mapped-loop-item l =
    paid (progress l.fn.meter) (mapped (meaning (default_view l.subject) (node_view l.body)) (map value_view l.items))
    ≡ prepended (map value_view l.values.items) (paid (progress l.meter) (mapped (meaning (default_view l.subject) (node_view l.body)) (map value_view (drop l.item-index l.items))))

abbrev pub invariant-kept-loop-item : goal.invariant-kept-loop-item
invariant-kept-loop-item l =
    paid (progress l.fn.meter) (kept (meaning (default_view l.subject) (node_view l.body)) (map value_view l.items))
    ≡ prepended (map value_view l.values.items) (paid (progress l.meter) (kept (meaning (default_view l.subject) (node_view l.body)) (map value_view (drop l.item-index l.items))))

abbrev pub invariant-occurs-loop-item : goal.invariant-occurs-loop-item
invariant-occurs-loop-item l =
    paid (progress l.fn.meter) (occurs l.wanted (meaning (default_view l.subject) (node_view l.body)) (map value_view l.items))
    ≡ paid (progress l.meter) (occurs l.wanted (meaning (default_view l.subject) (node_view l.body)) (map value_view (drop l.item-index l.items)))

abbrev pub invariant-reduced-loop-item : goal.invariant-reduced-loop-item
invariant-reduced-loop-item l =
    paid (progress l.fn.meter) (reduced (meaning (default_view l.subject) (node_view l.body)) (value_view l.fn.start) (map value_view l.items))
    ≡ paid (progress l.meter) (reduced (meaning (default_view l.subject) (node_view l.body)) (value_view l.so_far) (map value_view (drop l.item-index l.items)))

abbrev pub invariant-shares-loop-bucket : goal.invariant-shares-loop-bucket
invariant-shares-loop-bucket l =
    paid (progress l.fn.meter) (pairs (bucket_meanings (default_view l.subject) (buckets_view l.bucket-items)) (scope_view l.scope))
    ≡ prepended (map weighted_variant_view l.shares.items) (paid (progress l.meter) (pairs (bucket_meanings (default_view l.subject) (buckets_view (drop l.bucket-index l.bucket-items))) (scope_view l.scope)))
