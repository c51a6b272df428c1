use Rattle.std.proofs.Common.{rules, ◌≡◌, ℕ, ◌+◌, ◌*◌, ◌<◌, length, Bool, Some, None, option_map, refl, sym, ap, subst, ◌∙◌, arith}
use Rattle.std.proofs.lemmas.Result.{IfOk-weaker}
use Rattle.logic_ast.proofs.Views.{node_view-fractional}
use Rattle.logic_ast.specs.Sites.{preorder_in, preorder_in_buckets}
use Rattle.logic_ast.specs.View.{buckets_view, node_view, nodes_view}
use Rattle.logic_ast.specs.declared.node.Node.{the_lemmas}
use Rattle.logic_eval.specs.Parts.{AreInspected, inspected}
use Rattle.logic_eval.proofs.Within.{in_nodes, in_name, in_weight, in_by, in_buckets}
use Rattle.decimal_reads.specs.Course.{course_view}
use Rattle.decimal_reads.specs.Reads.{Course, course_in_buckets, read_in, read_in_conditional, read_in_items, read_in_reduce, read_in_truth, read_view, reading_or, truth_of}
use Rattle.decimal_reads.proofs.Booleans.{bool_eq-same, bool_eq-other}
use Rattle.decimal_reads.proofs.Steps.{conditional-true, conditional-false, conditional-ends, conditional-last, truth-found, truth-next, truth-ends, truth-last, items-short, items-first, reduce-short, reduce-ends, reduce-start, reduce-end}
use Rattle.decimal_reads.proofs.reading.+read.Goals as goal

-- ---- the sites of parts are known

pub courses-course-requires : goal.courses-course-requires
courses-course-requires t c =
    let xs = c.deref-node-items.result.now in
    let all : AreInspected c.args.inspection.now (preorder_in (nodes_view xs)) = subst (λ ns. AreInspected c.args.inspection.now (preorder_in (nodes_view ns))) (sym c.deref-node-items.ensures.value) c.requires.known in
    (search (rules, the_lemmas), in_nodes _ xs c.loop-node.node-index c.node-item.result (omega arith) c.node-item.is all)

pub course_in_buckets-course-requires : goal.course_in_buckets-course-requires
course_in_buckets-course-requires t c =
    let xs = c.deref-bucket-items.result.now in
    let all : AreInspected c.args.inspection.now (preorder_in_buckets (buckets_view xs)) =
    subst (λ bs. AreInspected c.args.inspection.now (preorder_in_buckets (buckets_view bs))) (sym c.deref-bucket-items.ensures.value) c.requires.known in
    (search (rules, the_lemmas), in_name _ xs c.loop-bucket.bucket-index c.bucket-item.result c.in-Computed.name c.in-Computed.weight (omega arith) c.bucket-item.is c.in-Computed.is all)

pub course_in_buckets-course-requires-in-Computed : goal.course_in_buckets-course-requires-in-Computed
course_in_buckets-course-requires-in-Computed t c =
    let xs = c.deref-bucket-items.result.now in
    let all : AreInspected c.args.inspection.now (preorder_in_buckets (buckets_view xs)) =
    subst (λ bs. AreInspected c.args.inspection.now (preorder_in_buckets (buckets_view bs))) (sym c.deref-bucket-items.ensures.value) c.requires.known in
    (search (rules, the_lemmas), in_weight _ xs c.loop-bucket.bucket-index c.bucket-item.result c.in-Computed.name c.in-Computed.weight (omega arith) c.bucket-item.is c.in-Computed.is all)

pub read_in-course_by-requires : goal.read_in-course_by-requires
read_in-course_by-requires t c = (search (rules, the_lemmas), in_by _ c.args.node.now c.in-Fractional.site c.in-Fractional.by c.in-Fractional.buckets c.in-Fractional.is c.requires.known)

pub read_in-course_in_buckets-requires : goal.read_in-course_in_buckets-requires
read_in-course_in_buckets-requires t c = (search (rules, the_lemmas), in_buckets _ c.args.node.now c.in-Fractional.site c.in-Fractional.by c.in-Fractional.buckets c.in-Fractional.is c.requires.known)

pub read_in_conditional-read_in-requires : goal.read_in_conditional-read_in-requires
read_in_conditional-read_in-requires t c = (search (rules, the_lemmas), in_nodes _ c.args.nodes.now.items (2 * c.loop-pair.pair + 1) c.index.result.now (omega arith) c.index.ensures c.requires.known)

pub read_in_conditional-read_in-requires-in-None : goal.read_in_conditional-read_in-requires-in-None
read_in_conditional-read_in-requires-in-None t c = (search (rules, the_lemmas), in_nodes _ c.args.nodes.now.items (2 * c.loop-pair.pair) c.index-test.result.now (omega arith) c.index-test.ensures c.requires.known)

pub read_in_conditional-read_in-requires-then-len-eq1 : goal.read_in_conditional-read_in-requires-then-len-eq1
read_in_conditional-read_in-requires-then-len-eq1 t c = (search (rules, the_lemmas), in_nodes _ c.args.nodes.now.items _ c.index-then-len-eq1.result.now (omega arith) c.index-then-len-eq1.ensures c.requires.known)

pub read_in_truth-read_in-requires : goal.read_in_truth-read_in-requires
read_in_truth-read_in-requires t c = (search (rules, the_lemmas), in_nodes _ c.args.nodes.now.items c.loop-place.place c.index-node.result.now (omega arith) c.index-node.ensures c.requires.known)

pub read_in_truth-read_in-requires-2 : goal.read_in_truth-read_in-requires-2
read_in_truth-read_in-requires-2 t c =
    let some : 0 < length c.args.nodes.now.items = grind arith in
    (search (rules, the_lemmas), in_nodes _ c.args.nodes.now.items _ c.index.result.now (omega (arith, some)) c.index.ensures c.requires.known)

pub read_in_items-read_in-requires : goal.read_in_items-read_in-requires
read_in_items-read_in-requires t c = (search (rules, the_lemmas), in_nodes _ c.args.arguments.now.items 0 c.index.result.now (omega arith) c.index.ensures c.requires.known)

pub read_in_reduce-course-requires : goal.read_in_reduce-course-requires
read_in_reduce-course-requires t c = (search (rules, the_lemmas), in_nodes _ c.args.arguments.now.items 0 c.index.result.now (omega arith) c.index.ensures c.requires.known)

pub read_in_reduce-read_in-requires : goal.read_in_reduce-read_in-requires
read_in_reduce-read_in-requires t c = (search (rules, the_lemmas), in_nodes _ c.args.arguments.now.items 2 c.index-in-GoesOn.result.now (omega arith) c.index-in-GoesOn.ensures c.requires.known)

-- ---- a site

pub read_in-returns-in_ok-course_in_buckets-in-GoesOn : goal.read_in-returns-in_ok-course_in_buckets-in-GoesOn
read_in-returns-in_ok-course_in_buckets-in-GoesOn t c =
    let s = inspected c.args.inspection.now in
    let it = c.in-Fractional in
    let by = sym (ap course_view c.in-GoesOn.is) ∙ c.in_ok-reading-in-Fractional.ensures in
    c.reading-in-GoesOn.ensures
    ∙ (ap (λ (o : Course). reading_or o None) c.in_ok-course_in_buckets-in-GoesOn.ensures
    ∙ (ap (λ (o : Course). reading_or o (reading_or (course_in_buckets s (buckets_view it.buckets.items)) None)) by
    ∙ sym (ap (read_in c.args.tested s) (ap node_view it.is ∙ node_view-fractional it.site it.by it.buckets))))

-- ---- `if`

pub read_in_conditional-returns-in-Some-true : goal.read_in_conditional-returns-in-Some-true
read_in_conditional-returns-in-Some-true t c =
    let s = inspected c.args.inspection.now in
    let xs = c.args.nodes.now.items in
    let i : ℕ = 2 * c.loop-pair.pair in
    let h : i + 1 < length xs = omega arith in
    let truth = sym c.in_ok-truth_of.ensures ∙ (c.in-Some-true.is ∙ ap (λ (b : Bool). Some b) c.in-Some-true.field-0-test) in
    let is = c.loop-pair.invariant ∙ conditional-true s xs i c.index-test.result.now c.index.result.now h c.index-test.ensures c.index.ensures truth in
    IfOk-weaker c.read_in.result _ (λ r. option_map read_view r ≡ read_in_conditional s (nodes_view xs)) (λ r e. e ∙ sym is) c.read_in.ensures

pub read_in_conditional-returns-in-None : goal.read_in_conditional-returns-in-None
read_in_conditional-returns-in-None t c =
    let s = inspected c.args.inspection.now in
    let xs = c.args.nodes.now.items in
    let i : ℕ = 2 * c.loop-pair.pair in
    let h : i + 1 < length xs = omega arith in
    let truth = sym c.in_ok-truth_of.ensures ∙ c.in-None.is in
    let is = c.loop-pair.invariant ∙ conditional-ends s xs i c.index-test.result.now h c.index-test.ensures truth in
    IfOk-weaker c.read_in-in-None.result _ (λ r. option_map read_view r ≡ read_in_conditional s (nodes_view xs)) (λ r e. e ∙ sym is) c.read_in-in-None.ensures

pub read_in_conditional-loop-pair-preserved : goal.read_in_conditional-loop-pair-preserved
read_in_conditional-loop-pair-preserved t c =
    let s = inspected c.args.inspection.now in
    let xs = c.args.nodes.now.items in
    let i : ℕ = 2 * c.loop-pair.pair in
    let h : i + 1 < length xs = omega arith in
    let truth = sym c.in_ok-truth_of.ensures ∙ (c.in-Some-false.is ∙ ap (λ (b : Bool). Some b) c.in-Some-false.field-0-test) in
    let next : 2 * (c.loop-pair.pair + 1) ≡ i + 2 = omega arith in
    c.loop-pair.invariant ∙ (conditional-false s xs i c.index-test.result.now h c.index-test.ensures truth ∙ rw next refl)

pub read_in_conditional-returns-then-len-eq1 : goal.read_in_conditional-returns-then-len-eq1
read_in_conditional-returns-then-len-eq1 t c =
    let s = inspected c.args.inspection.now in
    let xs = c.args.nodes.now.items in
    let is = c.loop-pair.invariant ∙ conditional-last s xs (2 * c.loop-pair.pair) c.index-then-len-eq1.result.now (omega arith) (search rules) in
    IfOk-weaker c.read_in-then-len-eq1.result _ (λ r. option_map read_view r ≡ read_in_conditional s (nodes_view xs)) (λ r e. e ∙ sym is) c.read_in-then-len-eq1.ensures

-- ---- `and` and `or`

pub read_in_truth-returns-in-Some : goal.read_in_truth-returns-in-Some
read_in_truth-returns-in-Some t c =
    let s = inspected c.args.inspection.now in
    let xs = c.args.nodes.now.items in
    let h : c.loop-place.place + 1 < length xs = omega arith in
    let truth = ap (λ (b : Bool). truth_of b s (node_view c.index-node.result.now)) (sym c.tests_early-early.ensures) ∙ (sym c.in_ok-truth.ensures ∙ c.in-Some.is) in
    sym (c.loop-place.invariant
    ∙ truth-found s xs c.loop-place.place c.index-node.result.now c.args.wanted c.args.tested c.in-Some.truth h c.index-node.ensures truth (bool_eq-same c.args.wanted c.in-Some.truth c.if-truth-wanted.true))

pub read_in_truth-loop-place-preserved : goal.read_in_truth-loop-place-preserved
read_in_truth-loop-place-preserved t c =
    let s = inspected c.args.inspection.now in
    let xs = c.args.nodes.now.items in
    let h : c.loop-place.place + 1 < length xs = omega arith in
    let truth = ap (λ (b : Bool). truth_of b s (node_view c.index-node.result.now)) (sym c.tests_early-early.ensures) ∙ (sym c.in_ok-truth.ensures ∙ c.in-Some.is) in
    c.loop-place.invariant
    ∙ truth-next s xs c.loop-place.place c.index-node.result.now c.args.wanted c.args.tested c.in-Some.truth h c.index-node.ensures truth (bool_eq-other c.args.wanted c.in-Some.truth c.if-truth-wanted.false)

pub read_in_truth-returns-in-None : goal.read_in_truth-returns-in-None
read_in_truth-returns-in-None t c =
    let s = inspected c.args.inspection.now in
    let xs = c.args.nodes.now.items in
    let x = c.index-node.result.now in
    let h : c.loop-place.place + 1 < length xs = omega arith in
    let truth = ap (λ (b : Bool). truth_of b s (node_view x)) (sym c.tests_early-early.ensures)
    ∙ (sym c.in_ok-truth.ensures ∙ c.in-None.is) in
    let is = c.loop-place.invariant ∙ (truth-ends s xs c.loop-place.place x c.args.wanted c.args.tested h c.index-node.ensures truth
    ∙ ap (λ (b : Bool). read_in b s (node_view x)) (sym c.tests_early-early.ensures)) in
    IfOk-weaker c.read_in.result _ (λ r. option_map read_view r ≡ read_in_truth c.args.wanted c.args.tested s (nodes_view xs)) (λ r e. e ∙ sym is) c.read_in.ensures

pub read_in_truth-returns : goal.read_in_truth-returns
read_in_truth-returns t c =
    let s = inspected c.args.inspection.now in
    let xs = c.args.nodes.now.items in
    let some : 0 < length xs = grind arith in
    let is = c.loop-place.invariant ∙ truth-last s xs c.loop-place.place c.index.result.now c.args.wanted c.args.tested (omega (arith, some)) (search rules) in
    IfOk-weaker c.read_in-2.result _ (λ r. option_map read_view r ≡ read_in_truth c.args.wanted c.args.tested s (nodes_view xs)) (λ r e. e ∙ sym is) c.read_in-2.ensures

-- ---- `map` and its like, and `reduce`

pub read_in_items-returns-then-len-lt2 : goal.read_in_items-returns-then-len-lt2
read_in_items-returns-then-len-lt2 t c = sym (items-short (inspected c.args.inspection.now) c.args.arguments.now.items (omega arith))

pub read_in_items-returns : goal.read_in_items-returns
read_in_items-returns t c =
    let s = inspected c.args.inspection.now in
    let xs = c.args.arguments.now.items in
    let is = items-first s xs c.index.result.now (omega arith) c.index.ensures in
    IfOk-weaker c.read_in.result _ (λ r. option_map read_view r ≡ read_in_items s (nodes_view xs)) (λ r e. e ∙ sym is) c.read_in.ensures

pub read_in_reduce-returns-then-len-lt2 : goal.read_in_reduce-returns-then-len-lt2
read_in_reduce-returns-then-len-lt2 t c = sym (reduce-short (inspected c.args.inspection.now) c.args.arguments.now.items (omega arith))

pub read_in_reduce-returns-in-Ends : goal.read_in_reduce-returns-in-Ends
read_in_reduce-returns-in-Ends t c =
    sym (reduce-ends (inspected c.args.inspection.now) c.args.arguments.now.items c.index.result.now (option_map read_view c.in-Ends.reading) (omega arith) c.index.ensures
    (sym (ap course_view c.in-Ends.is) ∙ c.in_ok-reading.ensures))

pub read_in_reduce-returns-in-GoesOn : goal.read_in_reduce-returns-in-GoesOn
read_in_reduce-returns-in-GoesOn t c =
    let s = inspected c.args.inspection.now in
    let xs = c.args.arguments.now.items in
    let is = reduce-start s xs c.index.result.now c.index-in-GoesOn.result.now (omega arith) c.index.ensures c.index-in-GoesOn.ensures (sym (ap course_view c.in-GoesOn.is) ∙ c.in_ok-reading.ensures) in
    IfOk-weaker c.read_in.result _ (λ r. option_map read_view r ≡ read_in_reduce s (nodes_view xs)) (λ r e. e ∙ sym is) c.read_in.ensures

pub read_in_reduce-returns-in-GoesOn-2 : goal.read_in_reduce-returns-in-GoesOn-2
read_in_reduce-returns-in-GoesOn-2 t c =
    sym (reduce-end (inspected c.args.inspection.now) c.args.arguments.now.items c.index.result.now (omega arith) (omega arith) c.index.ensures (sym (ap course_view c.in-GoesOn-2.is) ∙ c.in_ok-reading.ensures))
