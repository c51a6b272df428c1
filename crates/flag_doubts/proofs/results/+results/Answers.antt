use Rattle.std.proofs.Common.{◌≡◌, ℕ, ◌+◌, ◌-◌, ◌*◌, ◌/◌, ◌<◌, ◌||◌, length, drop, Some, ap, sym, ◌∙◌, arith}
use Rattle.std.specs.List.{list_any}
use Rattle.flag_defs.specs.Flag.{flag_view}
use Rattle.logic_ast.specs.View.{node_view, nodes_view}
use Rattle.logic_ast.proofs.Views.{node_view-fractional}
use Rattle.flag_doubts.specs.Outcomes.{outcomes, branches, arguments}
use Rattle.flag_doubts.specs.Views.{is_sought}
use Rattle.flag_doubts.proofs.Branches.{argument_last, argument_open, argument_passed, argument_taken, bool_eq-other, bool_eq-same, branch_last, branch_open, branch_passed, branch_taken}
use Rattle.flag_doubts.proofs.results.+results.Goals as goal
use Rattle.flag_doubts.proofs.results.+results.Goals.{is_argument-in-Some+else-truth-wanted, is_argument-in-None+else-is_result, is_branch-in-Some+else-truth, is_branch-in-None+else-is_result}

-- ---- the arguments of `and` and `or`

pub is_argument-returns-then-truth-wanted : goal.is_argument-returns-then-truth-wanted
is_argument-returns-then-truth-wanted t c =
    let i : ℕ = c.loop-place.place in
    let xs = c.args.nodes.now.items in
    let h : i + 1 < length xs = omega arith in
    let p = is_sought c.args.sought (flag_view c.args.flag.now) in
    let wanted = c.args.wanted in
    c.is_result.ensures
    ∙ sym (c.loop-place.invariant ∙ argument_taken p xs i c.index-node.result.now c.index-node.ensures h wanted c.in-Some.truth c.in-Some.ensures (bool_eq-same wanted c.in-Some.truth c.if-truth-wanted.true))

pub is_argument-returns-then-is_result : goal.is_argument-returns-then-is_result
is_argument-returns-then-is_result t c =
    let i : ℕ = c.loop-place.place in
    let xs = c.args.nodes.now.items in
    let h : i + 1 < length xs = omega arith in
    let p = is_sought c.args.sought (flag_view c.args.flag.now) in
    let wanted = c.args.wanted in
    let found = sym c.is_result-in-None.ensures ∙ c.if-is_result.true in
    sym (c.loop-place.invariant ∙ argument_open p xs i c.index-node.result.now c.index-node.ensures h wanted c.in-None.ensures ∙ ap (λ b. b || list_any p (arguments wanted (nodes_view (drop (i + 1) xs)))) found)

pub is_argument-loop-place-preserved : goal.is_argument-loop-place-preserved
is_argument-loop-place-preserved t c =
    let i : ℕ = c.loop-place.place in
    let xs = c.args.nodes.now.items in
    let h : i + 1 < length xs = omega arith in
    let p = is_sought c.args.sought (flag_view c.args.flag.now) in
    let wanted = c.args.wanted in
    elim c.match-literal_truth.branch [
      | is_argument-in-Some+else-truth-wanted w ↦ c.loop-place.invariant
          ∙ argument_passed p xs i c.index-node.result.now c.index-node.ensures h wanted w.in-Some.truth w.in-Some.ensures (bool_eq-other wanted w.in-Some.truth w.if-truth-wanted.false)
      | is_argument-in-None+else-is_result w ↦ c.loop-place.invariant ∙ argument_open p xs i c.index-node.result.now c.index-node.ensures h wanted w.in-None.ensures
          ∙ ap (λ b. b || list_any p (arguments wanted (nodes_view (drop (i + 1) xs)))) (sym w.is_result-in-None.ensures ∙ w.if-is_result.false)
    ]

pub is_argument-returns : goal.is_argument-returns
is_argument-returns t c =
    let i : ℕ = c.len-last.result - 1 in
    let xs = c.args.nodes.now.items in
    let some : 0 < length xs = grind arith in
    let last : i + 1 ≡ length xs = omega arith in
    let same : c.loop-place.place ≡ i = omega arith in
    let p = is_sought c.args.sought (flag_view c.args.flag.now) in
    let wanted = c.args.wanted in
    c.is_result-2.ensures
    ∙ sym (c.loop-place.invariant ∙ ap (λ k. list_any p (arguments wanted (nodes_view (drop k xs)))) same ∙ argument_last p wanted xs i c.index.result.now c.index.ensures last)

-- ---- the branches of `if`

pub is_branch-returns-then-truth : goal.is_branch-returns-then-truth
is_branch-returns-then-truth t c =
    let i : ℕ = 2 * c.loop-pair.pair in
    let xs = c.args.nodes.now.items in
    let h : i + 1 < length xs = omega arith in
    let p = is_sought c.args.sought (flag_view c.args.flag.now) in
    let known = ap Some (sym c.if-truth.true) ∙ c.in-Some.ensures in
    c.is_result.ensures ∙ sym (c.loop-pair.invariant ∙ branch_taken p xs i c.index.result.now c.index.ensures h c.index-then-truth.result.now c.index-then-truth.ensures known)

pub is_branch-returns-then-is_result : goal.is_branch-returns-then-is_result
is_branch-returns-then-is_result t c =
    let i : ℕ = 2 * c.loop-pair.pair in
    let xs = c.args.nodes.now.items in
    let h : i + 1 < length xs = omega arith in
    let p = is_sought c.args.sought (flag_view c.args.flag.now) in
    let found = sym c.is_result-in-None.ensures ∙ c.if-is_result.true in
    sym (c.loop-pair.invariant ∙ branch_open p xs i c.index.result.now c.index.ensures h c.index-in-None.result.now c.index-in-None.ensures c.in-None.ensures ∙ ap (λ b. b || list_any p (branches (nodes_view (drop (i + 2) xs)))) found)

pub is_branch-loop-pair-preserved : goal.is_branch-loop-pair-preserved
is_branch-loop-pair-preserved t c =
    let i : ℕ = 2 * c.loop-pair.pair in
    let xs = c.args.nodes.now.items in
    let h : i + 1 < length xs = omega arith in
    let p = is_sought c.args.sought (flag_view c.args.flag.now) in
    let next : i + 2 ≡ 2 * (c.loop-pair.pair + 1) = omega arith in
    let on = ap (λ k. list_any p (branches (nodes_view (drop k xs)))) next in
    elim c.match-literal_truth.branch [
      | is_branch-in-Some+else-truth w ↦ c.loop-pair.invariant ∙ branch_passed p xs i c.index.result.now c.index.ensures h (ap Some (sym w.if-truth.false) ∙ w.in-Some.ensures) ∙ on
      | is_branch-in-None+else-is_result w ↦ c.loop-pair.invariant ∙ branch_open p xs i c.index.result.now c.index.ensures h w.index-in-None.result.now w.index-in-None.ensures w.in-None.ensures
          ∙ ap (λ b. b || list_any p (branches (nodes_view (drop (i + 2) xs)))) (sym w.is_result-in-None.ensures ∙ w.if-is_result.false) ∙ on
    ]

pub is_branch-returns-then-len-eq1 : goal.is_branch-returns-then-len-eq1
is_branch-returns-then-len-eq1 t c =
    let i : ℕ = 2 * (c.len-pairs.result / 2) in
    let xs = c.args.nodes.now.items in
    let last : i + 1 ≡ length xs = omega arith in
    let same : 2 * c.loop-pair.pair ≡ i = omega arith in
    let p = is_sought c.args.sought (flag_view c.args.flag.now) in
    c.is_result-then-len-eq1.ensures
    ∙ sym (c.loop-pair.invariant ∙ ap (λ k. list_any p (branches (nodes_view (drop k xs)))) same ∙ branch_last p xs i c.index-then-len-eq1.result.now c.index-then-len-eq1.ensures last)

-- ---- a `fractional`

pub is_result-returns-in-Fractional : goal.is_result-returns-in-Fractional
is_result-returns-in-Fractional t c =
    c.is_name.ensures ∙ sym (ap (λ e. list_any (is_sought c.args.sought (flag_view c.args.flag.now)) (outcomes e)) (ap node_view c.in-Fractional.is ∙ node_view-fractional _ _ _))
