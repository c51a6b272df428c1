use Rattle.std.proofs.Common.{◌≡◌, ◌*◌, drop}
use Rattle.logic_ast.specs.View.{buckets_view, nodes_view}
use Rattle.logic_eval.specs.Parts.{inspected}
use Rattle.decimal_reads.specs.Reads.{course_in_buckets, courses, read_in_conditional, read_in_truth}
use Rattle.decimal_reads.proofs.reading.+read.Given as goal

abbrev pub invariant-course_in_buckets-loop-bucket : goal.invariant-course_in_buckets-loop-bucket
invariant-course_in_buckets-loop-bucket l =
    course_in_buckets (inspected l.inspection) (buckets_view l.bucket-items) ≡ course_in_buckets (inspected l.inspection) (buckets_view (drop l.bucket-index l.bucket-items))

abbrev pub invariant-courses-loop-node : goal.invariant-courses-loop-node
invariant-courses-loop-node l = courses l.tested (inspected l.inspection) (nodes_view l.node-items) ≡ courses l.tested (inspected l.inspection) (nodes_view (drop l.node-index l.node-items))

abbrev pub invariant-read_in_conditional-loop-pair : goal.invariant-read_in_conditional-loop-pair
invariant-read_in_conditional-loop-pair l =
    read_in_conditional (inspected l.inspection) (nodes_view l.nodes.items) ≡ read_in_conditional (inspected l.inspection) (nodes_view (drop (2 * l.pair) l.nodes.items))

abbrev pub invariant-read_in_truth-loop-place : goal.invariant-read_in_truth-loop-place
invariant-read_in_truth-loop-place l =
    read_in_truth l.wanted l.tested (inspected l.inspection) (nodes_view l.nodes.items) ≡ read_in_truth l.wanted l.tested (inspected l.inspection) (nodes_view (drop l.place l.nodes.items))
