use Rattle.std.proofs.Common.{◌≡◌, ℕ, ◌+◌, ◌*◌, ◌<◌, ◌≤◌, List, [], length, drop, map, Some, Ok, pos, ap, ◌∙◌, sym, refl, subst, arith, rules, true, false}
use Rattle.std.proofs.lemmas.List.{drop_all}
use Rattle.flag_text.specs.Shape.{Shape, list, text, whole}
use Rattle.flag_text.specs.View.{items_of}
use Rattle.logic_ast.specs.Sites.{preorder_in, preorder_in_buckets}
use Rattle.logic_ast.specs.declared.node.Node.{the_lemmas}
use Rattle.logic_ast.specs.View.{node_view, nodes_view, boxed_view, buckets_view}
use Rattle.logic_ast.proofs.Views.{node_view-fractional}
use Rattle.logic_eval.specs.Budget.{paid}
use Rattle.logic_values.specs.Comparison.{bool_eq}
use Rattle.logic_eval.specs.Evaluated.{tested_meanings, tested_operation}
use Rattle.logic_eval.specs.Evaluation.{meaning, meanings, operands, by_meaning, bucket_meanings, input, pairs, part_of}
use Rattle.logic_eval.specs.Fractional.{decided}
use Rattle.logic_eval.specs.Literal.{AreSummed}
use Rattle.logic_eval.specs.Operators.{values, asked, operated, mapped, kept, occurs, reduced, over_items}
use Rattle.logic_values.specs.Truth.{is_true}
use Rattle.logic_eval.specs.Views.{progress, scope_view, default_view, input_view, weighted_variant_view}
use Rattle.logic_values.specs.Views.{value_view}
use Rattle.logic_eval.proofs.Branching.{literal_site}
use Rattle.logic_eval.proofs.Branches.{node_view-literal, node_view-list, node_view-operation, as_seen, operand_seen, operated-other, strict-asked, operand-operation, operand-node, tested-other, conditional_err, conditional_true, conditional_false, conditional_end, first_of_truth_err, first_of_truth_found, first_of_truth_next, first_of_truth_none, early_seen}
use Rattle.logic_eval.proofs.Budgets.{bind_ok, bind_err, cost_ok, cost_err, paid-gives}
use Rattle.logic_eval.proofs.Exits.{exits, gives_same, ended}
use Rattle.logic_values.proofs.Items.{pushed}
use Rattle.logic_eval.proofs.Items.{bool_eq-same, bool_eq-other, mapped_ok, mapped_err, kept_true, kept_false, kept_err, occurs_found, occurs_next, occurs_err, reduced_ok, reduced_err, all_of_none, all_of_some, over_items-other, over_short, over_err, over_ok, reduce_short, reduce_err, reduce_start_err, reduce_ok, start_none}
use Rattle.logic_eval.proofs.Sites.{literal_ok, computed_name_err, computed_weight_err, computed_ok}
use Rattle.logic_values.proofs.Surfaces.{value_items, value_null, value_bool, value_lent}
use Rattle.logic_eval.proofs.Values.{values_ok, values_err, values_none, prepended, prepended-err, prepended-none, prepended_all, one_more}
use Rattle.logic_eval.proofs.Within.{in_nodes, in_name, in_weight, in_by, in_buckets, own_ends}
use Rattle.logic_eval.proofs.nodes.+evaluate.Goals as goal
use Rattle.logic_eval.proofs.nodes.+evaluate.Goals.{kept-then-is_true+in_ok-copy+in_ok-push, kept-else-is_true, shares-in-Literal+in_ok-push-in-Literal, shares-in-Computed+in_ok-name-in-Computed+in_ok-weight-in-Computed+in_ok-push-in-Computed}

pub conditional-returns-in_err-value : goal.conditional-returns-in_err-value
conditional-returns-in_err-value t c = let xs = c.args.nodes.now.items in
    let i : ℕ = 2 * c.loop-pair.pair in
    let h : i + 1 < length xs = omega arith in record {
      exact = exits _ _ _ _ c.from_residual.ensures.1
          (λ n. c.loop-pair.invariant ∙ conditional_err (default_view c.args.subject) (scope_view c.args.scope) xs i c.index.result.now (progress c.loop-pair.meter) _ h c.index.ensures (c.in_err-value.ensures.exact n));
    }

pub conditional-returns-then-is_true : goal.conditional-returns-then-is_true
conditional-returns-then-is_true t c = let xs = c.args.nodes.now.items in
    let i : ℕ = 2 * c.loop-pair.pair in
    let h : i + 1 < length xs = omega arith in
    let t : is_true (value_view c.in_ok-value.value) ≡ true = sym (ap is_true c.seen.ensures) ∙ (sym c.is_true.ensures ∙ c.if-is_true.true) in record {
      exact = gives_same _ _ _ _ (c.loop-pair.invariant ∙ conditional_true (default_view c.args.subject) (scope_view c.args.scope) xs i c.index.result.now c.index-then-is_true.result.now (progress c.loop-pair.meter) (progress c.evaluate_operand.new.meter) _ h c.index.ensures c.index-then-is_true.ensures c.in_ok-value.ensures.exact t) c.evaluate_node.ensures.exact;
    }

pub conditional-loop-pair-preserved : goal.conditional-loop-pair-preserved
conditional-loop-pair-preserved t c = let xs = c.args.nodes.now.items in
    let i : ℕ = 2 * c.loop-pair.pair in
    let h : i + 1 < length xs = omega arith in
    let t : is_true (value_view c.in_ok-value.value) ≡ false = sym (ap is_true c.seen.ensures) ∙ (sym c.is_true.ensures ∙ c.if-is_true.false) in
    let next : 2 * (c.loop-pair.pair + 1) ≡ i + 2 = omega arith in
    c.loop-pair.invariant ∙ (conditional_false (default_view c.args.subject) (scope_view c.args.scope) xs i c.index.result.now (progress c.loop-pair.meter) (progress c.evaluate_operand.new.meter) _ h c.index.ensures c.in_ok-value.ensures.exact t ∙ rw next refl)

pub conditional-returns : goal.conditional-returns
conditional-returns t c = record {
  exact = c.loop-pair.invariant ∙ (ap (paid (progress c.loop-pair.meter)) (conditional_end (default_view c.args.subject) (scope_view c.args.scope) c.args.nodes.now.items (2 * c.loop-pair.pair) (omega arith)) ∙ (paid-gives _ _ ∙ ap (λ s. Ok (s, progress c.loop-pair.meter)) (sym value_null)));
}

pub evaluate_node-returns-in_err-pay_for-in-Literal : goal.evaluate_node-returns-in_err-pay_for-in-Literal
evaluate_node-returns-in_err-pay_for-in-Literal t c = record {
  exact = exits _ _ _ _ c.from_residual.ensures.1
      (λ n. as_seen _ _ _ _ _ (ap node_view c.in-Literal.is ∙ node_view-literal _) ∙ cost_err _ _ _ _ (c.in_err-pay_for-in-Literal.ensures.exact n));
}

pub evaluate_node-returns-in_ok-pay_for-in-Literal : goal.evaluate_node-returns-in_ok-pay_for-in-Literal
evaluate_node-returns-in_ok-pay_for-in-Literal t c = record {
  exact = as_seen _ _ _ _ _ (ap node_view c.in-Literal.is ∙ node_view-literal _) ∙ (cost_ok _ _ _ _ _ c.in_ok-pay_for-in-Literal.ensures.exact ∙ (paid-gives _ _ ∙ ap (λ s. Ok (s, progress c.pay_for.new.meter)) (sym (value_lent _))));
}

pub evaluate_node-returns-in_err-pay-in-List : goal.evaluate_node-returns-in_err-pay-in-List
evaluate_node-returns-in_err-pay-in-List t c = record {
  exact = exits _ _ _ _ c.from_residual-in_err-pay-in-List.ensures.1
      (λ n. as_seen _ _ _ _ _ (ap node_view c.in-List.is ∙ node_view-list _) ∙ cost_err _ _ _ _ (c.in_err-pay-in-List.ensures.exact n));
}

pub evaluate_node-returns-in_err-values-in-List : goal.evaluate_node-returns-in_err-values-in-List
evaluate_node-returns-in_err-values-in-List t c = record {
  exact = exits _ _ _ _ c.from_residual-in_err-values-in-List.ensures.1
      (λ n. as_seen _ _ _ _ _ (ap node_view c.in-List.is ∙ node_view-list _) ∙ (cost_ok _ _ _ _ _ c.in_ok-pay-in-List.ensures.exact ∙ bind_err _ _ _ _ (c.in_err-values-in-List.ensures.exact n)));
}

pub evaluate_node-returns-in_ok-listed-in-List : goal.evaluate_node-returns-in_ok-listed-in-List
evaluate_node-returns-in_ok-listed-in-List t c = record {
  exact = as_seen _ _ _ _ _ (ap node_view c.in-List.is ∙ node_view-list _) ∙ (cost_ok _ _ _ _ _ c.in_ok-pay-in-List.ensures.exact ∙ (bind_ok _ _ _ _ _ c.in_ok-values-in-List.ensures.exact ∙ (paid-gives _ _ ∙ ap (λ s. Ok (s, progress c.evaluate_all.new.meter)) (ap (λ ts. list (items_of ts)) (sym c.in_ok-listed-in-List.ensures) ∙ sym (value_items c.in_ok-listed-in-List.field-0)))));
}

pub evaluate_node-returns-in_err-pay-in-Operation : goal.evaluate_node-returns-in_err-pay-in-Operation
evaluate_node-returns-in_err-pay-in-Operation t c = record {
  exact = exits _ _ _ _ c.from_residual-in_err-pay-in-Operation.ensures.1
      (λ n. as_seen _ _ _ _ _ (ap node_view c.in-Operation.is ∙ node_view-operation _ _) ∙ cost_err _ _ _ _ (c.in_err-pay-in-Operation.ensures.exact n));
}

pub evaluate_node-returns-in_ok-pay-in-Operation : goal.evaluate_node-returns-in_ok-pay-in-Operation
evaluate_node-returns-in_ok-pay-in-Operation t c = record {
  exact = gives_same _ _ _ _ (as_seen _ _ _ _ _ (ap node_view c.in-Operation.is ∙ node_view-operation _ _) ∙ cost_ok _ _ _ _ _ c.in_ok-pay-in-Operation.ensures.exact) c.operate.ensures.exact;
}

pub evaluate_node-returns-in_err-pay-in-Fractional : goal.evaluate_node-returns-in_err-pay-in-Fractional
evaluate_node-returns-in_err-pay-in-Fractional t c = record {
  exact = exits _ _ _ _ c.from_residual-in_err-pay-in-Fractional.ensures.1
      (λ n. as_seen _ _ _ _ _ (ap node_view c.in-Fractional.is ∙ node_view-fractional _ _ _) ∙ cost_err _ _ _ _ (c.in_err-pay-in-Fractional.ensures.exact n));
}

pub evaluate_node-returns-in_err-input-in-Fractional : goal.evaluate_node-returns-in_err-input-in-Fractional
evaluate_node-returns-in_err-input-in-Fractional t c = record {
  exact = exits _ _ _ _ c.from_residual-in_err-input-in-Fractional.ensures.1
      (λ n. as_seen _ _ _ _ _ (ap node_view c.in-Fractional.is ∙ node_view-fractional _ _ _) ∙ (cost_ok _ _ _ _ _ c.in_ok-pay-in-Fractional.ensures.exact ∙ bind_err _ _ _ _ (c.in_err-input-in-Fractional.ensures.exact n)));
}

pub evaluate_node-input-requires : goal.evaluate_node-input-requires
evaluate_node-input-requires t c = (search (rules, the_lemmas), in_by c.args.subject c.args.node.now c.in-Fractional.site c.in-Fractional.by c.in-Fractional.buckets c.in-Fractional.is c.requires)

pub evaluate_node-decide_literal-requires : goal.evaluate_node-decide_literal-requires
evaluate_node-decide_literal-requires t c =
    let some : 0 < length c.ends_at-ends.result.now = grind arith in
    record {
      ends = own_ends c.args.subject c.args.node.now c.in-Fractional.site c.in-Fractional.by c.in-Fractional.buckets c.in-Fractional.is c.requires c.ends_at-ends.result.now c.ends_at-ends.ensures some;
      some = some;
    }

pub evaluate_node-returns-then-not-is_empty : goal.evaluate_node-returns-then-not-is_empty
evaluate_node-returns-then-not-is_empty t c =
    let some : 0 < length c.ends_at-ends.result.now = grind arith in
    let are = own_ends c.args.subject c.args.node.now c.in-Fractional.site c.in-Fractional.by c.in-Fractional.buckets c.in-Fractional.is c.requires c.ends_at-ends.result.now c.ends_at-ends.ensures some in
    let law = literal_site (default_view c.args.subject) c.in-Fractional.site (boxed_view c.in-Fractional.by) (buckets_view c.in-Fractional.buckets.items) _ (scope_view c.args.scope) are.literal are.small in record {
      exact = gives_same _ _ _ _ (as_seen _ _ _ _ _ (ap node_view c.in-Fractional.is ∙ node_view-fractional _ _ _) ∙ (ap (paid (progress c.args.meter.now)) law ∙ (cost_ok _ _ _ _ _ c.in_ok-pay-in-Fractional.ensures.exact ∙ bind_ok _ _ _ _ _ c.in_ok-input-in-Fractional.ensures.exact))) c.decide_literal.ensures.exact;
    }

pub evaluate_node-shares-requires : goal.evaluate_node-shares-requires
evaluate_node-shares-requires t c = (search (rules, the_lemmas), in_buckets c.args.subject c.args.node.now c.in-Fractional.site c.in-Fractional.by c.in-Fractional.buckets c.in-Fractional.is c.requires)

pub evaluate_operand-returns-in_err-pay-in-Operation : goal.evaluate_operand-returns-in_err-pay-in-Operation
evaluate_operand-returns-in_err-pay-in-Operation t c = record {
  exact = exits _ _ _ _ c.from_residual.ensures.1
      (λ n. operand_seen _ _ _ _ _ (ap node_view c.in-Operation.is ∙ node_view-operation _ _) ∙ (ap (λ m. paid (progress c.args.meter.now) (m (scope_view c.args.scope))) (operand-operation _ _ _) ∙ cost_err _ _ _ _ (c.in_err-pay-in-Operation.ensures.exact n)));
}

pub evaluate_operand-returns-in_ok-pay-in-Operation : goal.evaluate_operand-returns-in_ok-pay-in-Operation
evaluate_operand-returns-in_ok-pay-in-Operation t c = record {
  exact = gives_same _ _ _ _ (operand_seen _ _ _ _ _ (ap node_view c.in-Operation.is ∙ node_view-operation _ _)
      ∙ (ap (λ m. paid (progress c.args.meter.now) (m (scope_view c.args.scope))) (operand-operation _ _ _) ∙ cost_ok _ _ _ _ _ c.in_ok-pay-in-Operation.ensures.exact)) c.operate_tested.ensures.exact;
}

pub evaluate_operand-returns-in_default : goal.evaluate_operand-returns-in_default
evaluate_operand-returns-in_default t c = record {
  exact = gives_same _ _ _ _ (ap (λ m. paid (progress c.args.meter.now) (m (scope_view c.args.scope))) (operand-node (default_view c.args.subject) c.args.node.now c.in_default.not-Operation)) c.evaluate_node.ensures.exact;
}

pub operate_tested-returns-in_err-values-in-Var : goal.operate_tested-returns-in_err-values-in-Var
operate_tested-returns-in_err-values-in-Var t c = record {
  exact = exits _ _ _ _ c.from_residual.ensures.1
      (λ n. ap (λ o. paid (progress c.args.meter.now) (tested_operation o (default_view c.args.subject) (nodes_view c.args.arguments.now.items) (scope_view c.args.scope))) c.in-Var.is ∙ bind_err _ _ _ _ (c.in_err-values-in-Var.ensures.exact n));
}

pub operate_tested-returns-in_ok-values-in-Var : goal.operate_tested-returns-in_ok-values-in-Var
operate_tested-returns-in_ok-values-in-Var t c = record {
  exact = gives_same _ _ _ _ (ap (λ o. paid (progress c.args.meter.now) (tested_operation o (default_view c.args.subject) (nodes_view c.args.arguments.now.items) (scope_view c.args.scope))) c.in-Var.is ∙ bind_ok _ _ _ _ _ c.in_ok-values-in-Var.ensures.exact) c.variable_or_decimal.ensures.exact;
}

pub operate_tested-returns-in_default : goal.operate_tested-returns-in_default
operate_tested-returns-in_default t c = record {
  exact = gives_same _ _ _ _ (ap (λ r. paid (progress c.args.meter.now) (r (scope_view c.args.scope))) (tested-other c.args.operator (default_view c.args.subject) (nodes_view c.args.arguments.now.items) c.in_default.not-Var c.in_default.not-And c.in_default.not-Or)) c.operate.ensures.exact;
}

-- what is known of the sites below a node

pub evaluate_all-evaluate_operand_if-requires : goal.evaluate_all-evaluate_operand_if-requires
evaluate_all-evaluate_operand_if-requires t c =
    let xs = c.deref-node-items.result.now in
    let all : AreSummed c.args.subject (preorder_in (nodes_view xs)) = subst (λ ns. AreSummed c.args.subject (preorder_in (nodes_view ns))) (sym c.deref-node-items.ensures.value) c.requires in
    (search (rules, the_lemmas), in_nodes c.args.subject xs c.loop-node.node-index c.node-item.result (omega arith) c.node-item.is all)

pub conditional-evaluate_operand-requires : goal.conditional-evaluate_operand-requires
conditional-evaluate_operand-requires t c = (search (rules, the_lemmas), in_nodes c.args.subject c.args.nodes.now.items (2 * c.loop-pair.pair) c.index.result.now (omega arith) c.index.ensures c.requires)

pub conditional-evaluate_node-requires : goal.conditional-evaluate_node-requires
conditional-evaluate_node-requires t c = (search (rules, the_lemmas), in_nodes c.args.subject c.args.nodes.now.items (2 * c.loop-pair.pair + 1) c.index-then-is_true.result.now (omega arith) c.index-then-is_true.ensures c.requires)

pub conditional-evaluate_node-requires-then-len-eq1 : goal.conditional-evaluate_node-requires-then-len-eq1
conditional-evaluate_node-requires-then-len-eq1 t c = (search (rules, the_lemmas), in_nodes c.args.subject c.args.nodes.now.items _ c.index-then-len-eq1.result.now (omega arith) c.index-then-len-eq1.ensures c.requires)

pub first_of_truth-evaluate_operand_if-requires : goal.first_of_truth-evaluate_operand_if-requires
first_of_truth-evaluate_operand_if-requires t c = (search (rules, the_lemmas), in_nodes c.args.subject c.args.nodes.now.items c.loop-place.place c.index.result.now (omega arith) c.index.ensures c.requires)

pub first_of_truth-evaluate_operand_if-requires-2 : goal.first_of_truth-evaluate_operand_if-requires-2
first_of_truth-evaluate_operand_if-requires-2 t c =
    let some : 0 < length c.args.nodes.now.items = grind arith in
    (search (rules, the_lemmas), in_nodes c.args.subject c.args.nodes.now.items _ c.index-2.result.now (omega (arith, some)) c.index-2.ensures c.requires)

pub over-evaluate_node-requires : goal.over-evaluate_node-requires
over-evaluate_node-requires t c = (search (rules, the_lemmas), in_nodes c.args.subject c.args.arguments.now.items 0 c.index.result.now (omega arith) c.index.ensures c.requires)

pub over-over_items-requires : goal.over-over_items-requires
over-over_items-requires t c = (search (rules, the_lemmas), in_nodes c.args.subject c.args.arguments.now.items 1 c.index-2.result.now (omega arith) c.index-2.ensures c.requires)

pub reduce-evaluate_node-requires : goal.reduce-evaluate_node-requires
reduce-evaluate_node-requires t c = (search (rules, the_lemmas), in_nodes c.args.subject c.args.arguments.now.items 0 c.index.result.now (omega arith) c.index.ensures c.requires)

pub reduce-reduced-requires : goal.reduce-reduced-requires
reduce-reduced-requires t c = (search (rules, the_lemmas), in_nodes c.args.subject c.args.arguments.now.items 1 c.index-2.result.now (omega arith) c.index-2.ensures c.requires)

pub start-evaluate_node-requires : goal.start-evaluate_node-requires
start-evaluate_node-requires t c = (search (rules, the_lemmas), in_nodes c.args.subject c.args.arguments.now.items 2 c.index.result.now (omega arith) c.index.ensures c.requires)

pub shares-part-requires : goal.shares-part-requires
shares-part-requires t c =
    let xs = c.deref-bucket-items.result.now in
    let all : AreSummed c.args.subject (preorder_in_buckets (buckets_view xs)) = subst (λ bs. AreSummed c.args.subject (preorder_in_buckets (buckets_view bs))) (sym c.deref-bucket-items.ensures.value) c.requires in
    (search (rules, the_lemmas), in_name c.args.subject xs c.loop-bucket.bucket-index c.bucket-item.result c.in-Computed.name c.in-Computed.weight (omega arith) c.bucket-item.is c.in-Computed.is all)

pub shares-part-requires-in-Computed : goal.shares-part-requires-in-Computed
shares-part-requires-in-Computed t c =
    let xs = c.deref-bucket-items.result.now in
    let all : AreSummed c.args.subject (preorder_in_buckets (buckets_view xs)) = subst (λ bs. AreSummed c.args.subject (preorder_in_buckets (buckets_view bs))) (sym c.deref-bucket-items.ensures.value) c.requires in
    (search (rules, the_lemmas), in_weight c.args.subject xs c.loop-bucket.bucket-index c.bucket-item.result c.in-Computed.name c.in-Computed.weight (omega arith) c.bucket-item.is c.in-Computed.is all)

pub evaluate_node-returns-in_err-shares-in-Fractional : goal.evaluate_node-returns-in_err-shares-in-Fractional
evaluate_node-returns-in_err-shares-in-Fractional t c = record {
  exact = exits _ _ _ _ c.from_residual-in_err-shares-in-Fractional.ensures.1
      (λ n. as_seen _ _ _ _ _ (ap node_view c.in-Fractional.is ∙ node_view-fractional _ _ _) ∙ (cost_ok _ _ _ _ _ c.in_ok-pay-in-Fractional.ensures.exact ∙ (bind_ok _ _ _ _ _ c.in_ok-input-in-Fractional.ensures.exact ∙ bind_err _ _ _ _ (c.in_err-shares-in-Fractional.ensures.exact n))));
}

pub evaluate_node-returns-in_ok-shares-in-Fractional : goal.evaluate_node-returns-in_ok-shares-in-Fractional
evaluate_node-returns-in_ok-shares-in-Fractional t c = record {
  exact = gives_same _ _ _ _ (as_seen _ _ _ _ _ (ap node_view c.in-Fractional.is ∙ node_view-fractional _ _ _) ∙ (cost_ok _ _ _ _ _ c.in_ok-pay-in-Fractional.ensures.exact ∙ (bind_ok _ _ _ _ _ c.in_ok-input-in-Fractional.ensures.exact ∙ (bind_ok _ _ _ _ _ c.in_ok-shares-in-Fractional.ensures.exact ∙ ap (λ ss. paid (progress c.shares.new.meter) (decided c.in-Fractional.site (input_view (default_view c.args.subject) c.in_ok-input-in-Fractional.input) (map weighted_variant_view ss))) (sym c.as_slice.ensures.value))))) c.decide.ensures.exact;
}

pub evaluate_all-loop-node-init : goal.evaluate_all-loop-node-init
evaluate_all-loop-node-init t c = sym (ap (λ vs. prepended (map value_view vs) (paid (progress c.args.meter.now) (values (tested_meanings c.args.tested (default_view c.args.subject) (nodes_view c.deref-node-items.result.now)) (scope_view c.args.scope)))) c.new-values.ensures.items ∙ prepended-none _)

pub evaluate_all-returns-in_err-value : goal.evaluate_all-returns-in_err-value
evaluate_all-returns-in_err-value t c = let xs = c.deref-node-items.result.now in
    let h : c.loop-node.node-index < length xs = omega arith in
    let d = default_view c.args.subject in
    let s = scope_view c.args.scope in record {
      exact = exits _ _ _ _ c.from_residual.ensures.1
          (λ n. ap (λ ns. paid (progress c.args.meter.now) (values (tested_meanings c.args.tested (default_view c.args.subject) (nodes_view ns)) (scope_view c.args.scope))) (sym c.deref-node-items.ensures.value)
          ∙ (c.loop-node.invariant ∙ (ap (prepended (map value_view c.loop-node.values.items)) (values_err c.args.tested d s xs c.loop-node.node-index c.node-item.result (progress c.loop-node.meter) _ h c.node-item.is (c.in_err-value.ensures.exact n))
          ∙ prepended-err _ _)));
    }

pub evaluate_all-loop-node-preserved : goal.evaluate_all-loop-node-preserved
evaluate_all-loop-node-preserved t c = let xs = c.deref-node-items.result.now in
    let h : c.loop-node.node-index < length xs = omega arith in
    let d = default_view c.args.subject in
    let s = scope_view c.args.scope in
    c.loop-node.invariant ∙ one_more (map value_view c.loop-node.values.items) (map value_view c.push.new.self.items) (value_view c.in_ok-value.value) _ _
    (pushed value_view c.loop-node.values.items c.push.new.self.items c.in_ok-value.value _ c.in_ok-push.ensures.ok refl)
    (values_ok c.args.tested d s xs c.loop-node.node-index c.node-item.result (progress c.loop-node.meter) (progress c.evaluate_operand_if.new.meter) _ h c.node-item.is c.in_ok-value.ensures.exact)

pub evaluate_all-returns : goal.evaluate_all-returns
evaluate_all-returns t c = let xs = c.deref-node-items.result.now in
    let end : drop c.loop-node.node-index xs ≡ [] = drop_all c.loop-node.node-index xs (omega arith) in record {
      exact = ap (λ ns. paid (progress c.args.meter.now) (values (tested_meanings c.args.tested (default_view c.args.subject) (nodes_view ns)) (scope_view c.args.scope))) (sym c.deref-node-items.ensures.value) ∙ (c.loop-node.invariant ∙ (ap (λ ns. prepended (map value_view c.loop-node.values.items) (paid (progress c.loop-node.meter) (values (tested_meanings c.args.tested (default_view c.args.subject) (nodes_view ns)) (scope_view c.args.scope)))) end ∙ (ap (λ r. prepended (map value_view c.loop-node.values.items) (paid (progress c.loop-node.meter) r)) (values_none c.args.tested (default_view c.args.subject) (scope_view c.args.scope)) ∙ prepended_all _ _)));
    }

pub operate-returns-in_err-values-in-Var : goal.operate-returns-in_err-values-in-Var
operate-returns-in_err-values-in-Var t c = record {
  exact = exits _ _ _ _ c.from_residual.ensures.1
      (λ n. ap (λ o. paid (progress c.args.meter.now) (operated o (asked o (meanings (default_view c.args.subject) (nodes_view c.args.arguments.now.items)) (operands (default_view c.args.subject) (nodes_view c.args.arguments.now.items))) (scope_view c.args.scope))) c.in-Var.is ∙ bind_err _ _ _ _ (c.in_err-values-in-Var.ensures.exact n));
}

pub operate-returns-in_ok-values-in-Var : goal.operate-returns-in_ok-values-in-Var
operate-returns-in_ok-values-in-Var t c = record {
  exact = gives_same _ _ _ _ (ap (λ o. paid (progress c.args.meter.now) (operated o (asked o (meanings (default_view c.args.subject) (nodes_view c.args.arguments.now.items)) (operands (default_view c.args.subject) (nodes_view c.args.arguments.now.items))) (scope_view c.args.scope))) c.in-Var.is ∙ bind_ok _ _ _ _ _ c.in_ok-values-in-Var.ensures.exact) c.variable.ensures.exact;
}

pub operate-returns-in_err-values-in_default : goal.operate-returns-in_err-values-in_default
operate-returns-in_err-values-in_default t c = record {
  exact = exits _ _ _ _ c.from_residual-in_err-values-in_default.ensures.1
      (λ n. ap (λ r. paid (progress c.args.meter.now) (r (scope_view c.args.scope))) (operated-other c.args.operator _ c.in_default.not-Var c.in_default.not-If c.in_default.not-And c.in_default.not-Or c.in_default.not-Map c.in_default.not-Filter c.in_default.not-AllOf c.in_default.not-SomeOf c.in_default.not-NoneOf c.in_default.not-Reduce) ∙ (ap (paid (progress c.args.meter.now)) (strict-asked c.args.operator (default_view c.args.subject) (nodes_view c.args.arguments.now.items) (scope_view c.args.scope) c.compares-tested.result c.compares-tested.ensures c.in_default.not-If c.in_default.not-And) ∙ bind_err _ _ _ _ (c.in_err-values-in_default.ensures.exact n)));
}

pub operate-returns-in_ok-values-in_default : goal.operate-returns-in_ok-values-in_default
operate-returns-in_ok-values-in_default t c = record {
  exact = gives_same _ _ _ _ (ap (λ r. paid (progress c.args.meter.now) (r (scope_view c.args.scope))) (operated-other c.args.operator _ c.in_default.not-Var c.in_default.not-If c.in_default.not-And c.in_default.not-Or c.in_default.not-Map c.in_default.not-Filter c.in_default.not-AllOf c.in_default.not-SomeOf c.in_default.not-NoneOf c.in_default.not-Reduce) ∙ (ap (paid (progress c.args.meter.now)) (strict-asked c.args.operator (default_view c.args.subject) (nodes_view c.args.arguments.now.items) (scope_view c.args.scope) c.compares-tested.result c.compares-tested.ensures c.in_default.not-If c.in_default.not-And) ∙ bind_ok _ _ _ _ _ c.in_ok-values-in_default.ensures.exact)) (ended _ _ _ _ c.apply.ensures.exact);
}

pub first_of_truth-returns-then-is_empty : goal.first_of_truth-returns-then-is_empty
first_of_truth-returns-then-is_empty t c = record {
  exact = ap (paid (progress c.args.meter.now)) (first_of_truth_none c.args.wanted c.args.tested (default_view c.args.subject) (scope_view c.args.scope) c.args.nodes.now.items (search rules)) ∙ (paid-gives _ _ ∙ ap (λ s. Ok (s, progress c.args.meter.now)) (sym value_null));
}

pub first_of_truth-returns-in_err-value : goal.first_of_truth-returns-in_err-value
first_of_truth-returns-in_err-value t c = let xs = c.args.nodes.now.items in
    let i : ℕ = c.loop-place.place in
    let h : i + 1 < length xs = omega arith in record {
      exact = exits _ _ _ _ c.from_residual.ensures.1
          (λ n. c.loop-place.invariant ∙ first_of_truth_err c.args.wanted c.args.tested (default_view c.args.subject) (scope_view c.args.scope) xs i c.index.result.now (progress c.loop-place.meter) _ h c.index.ensures (early_seen _ _ _ _ _ _ _ c.tests_early-early.ensures ∙ c.in_err-value.ensures.exact n));
    }

pub first_of_truth-returns-then-is_true-wanted : goal.first_of_truth-returns-then-is_true-wanted
first_of_truth-returns-then-is_true-wanted t c = let xs = c.args.nodes.now.items in
    let i : ℕ = c.loop-place.place in
    let h : i + 1 < length xs = omega arith in
    let t : bool_eq c.args.wanted (is_true (value_view c.in_ok-value.value)) ≡ true = ap (bool_eq c.args.wanted) (sym (ap is_true c.seen.ensures) ∙ sym c.is_true.ensures) ∙ bool_eq-same c.args.wanted c.is_true.result c.if-is_true-wanted.true in record {
      exact = c.loop-place.invariant ∙ first_of_truth_found c.args.wanted c.args.tested (default_view c.args.subject) (scope_view c.args.scope) xs i c.index.result.now (progress c.loop-place.meter) (progress c.evaluate_operand_if.new.meter) _ h c.index.ensures (early_seen _ _ _ _ _ _ _ c.tests_early-early.ensures ∙ c.in_ok-value.ensures.exact) t;
    }

pub first_of_truth-loop-place-preserved : goal.first_of_truth-loop-place-preserved
first_of_truth-loop-place-preserved t c = let xs = c.args.nodes.now.items in
    let i : ℕ = c.loop-place.place in
    let h : i + 1 < length xs = omega arith in
    let t : bool_eq c.args.wanted (is_true (value_view c.in_ok-value.value)) ≡ false = ap (bool_eq c.args.wanted) (sym (ap is_true c.seen.ensures) ∙ sym c.is_true.ensures) ∙ bool_eq-other c.args.wanted c.is_true.result c.if-is_true-wanted.false in
    c.loop-place.invariant ∙ first_of_truth_next c.args.wanted c.args.tested (default_view c.args.subject) (scope_view c.args.scope) xs i c.index.result.now (progress c.loop-place.meter) (progress c.evaluate_operand_if.new.meter) _ h c.index.ensures (early_seen _ _ _ _ _ _ _ c.tests_early-early.ensures ∙ c.in_ok-value.ensures.exact) t

pub mapped-returns-in_err-value : goal.mapped-returns-in_err-value
mapped-returns-in_err-value t c = let xs = c.args.items.now in
    let i : ℕ = c.loop-item.item-index in
    let h : i < length xs = omega arith in record {
      exact = exits _ _ _ _ c.from_residual.ensures.1
          (λ n. c.loop-item.invariant ∙ (ap (prepended (map value_view c.loop-item.values.items)) (mapped_err (meaning (default_view c.args.subject) (node_view c.args.body.now)) xs i c.item-item.result h c.item-item.is (progress c.loop-item.meter) _ (c.in_err-value.ensures.exact n)) ∙ prepended-err _ _));
    }

pub mapped-returns : goal.mapped-returns
mapped-returns t c = let xs = c.args.items.now in
    let end : drop c.loop-item.item-index xs ≡ [] = drop_all c.loop-item.item-index xs (omega arith) in record {
      exact = c.loop-item.invariant ∙ (ap (λ ts. prepended (map value_view c.loop-item.values.items) (paid (progress c.loop-item.meter) (mapped (meaning (default_view c.args.subject) (node_view c.args.body.now)) (map value_view ts)))) end ∙ prepended_all _ _);
    }

pub mapped-loop-item-init : goal.mapped-loop-item-init
mapped-loop-item-init t c = sym (ap (λ ts. prepended (map value_view ts) (paid (progress c.args.meter.now) (mapped (meaning (default_view c.args.subject) (node_view c.args.body.now)) (map value_view c.args.items.now)))) c.new-values.ensures.items ∙ prepended-none _)

pub kept-returns-in_err-value : goal.kept-returns-in_err-value
kept-returns-in_err-value t c = let xs = c.args.items.now in
    let i : ℕ = c.loop-item.item-index in
    let h : i < length xs = omega arith in record {
      exact = exits _ _ _ _ c.from_residual.ensures.1
          (λ n. c.loop-item.invariant ∙ (ap (prepended (map value_view c.loop-item.values.items)) (kept_err (meaning (default_view c.args.subject) (node_view c.args.body.now)) xs i c.item-item.result h c.item-item.is (progress c.loop-item.meter) _ (c.in_err-value.ensures.exact n)) ∙ prepended-err _ _));
    }

pub kept-returns : goal.kept-returns
kept-returns t c = let xs = c.args.items.now in
    let end : drop c.loop-item.item-index xs ≡ [] = drop_all c.loop-item.item-index xs (omega arith) in record {
      exact = c.loop-item.invariant ∙ (ap (λ ts. prepended (map value_view c.loop-item.values.items) (paid (progress c.loop-item.meter) (kept (meaning (default_view c.args.subject) (node_view c.args.body.now)) (map value_view ts)))) end ∙ prepended_all _ _);
    }

pub kept-loop-item-init : goal.kept-loop-item-init
kept-loop-item-init t c = sym (ap (λ ts. prepended (map value_view ts) (paid (progress c.args.meter.now) (kept (meaning (default_view c.args.subject) (node_view c.args.body.now)) (map value_view c.args.items.now)))) c.new-values.ensures.items ∙ prepended-none _)

pub mapped-loop-item-preserved : goal.mapped-loop-item-preserved
mapped-loop-item-preserved t c = let xs = c.args.items.now in
    let i : ℕ = c.loop-item.item-index in
    let h : i < length xs = omega arith in
    c.loop-item.invariant ∙ one_more (map value_view c.loop-item.values.items) (map value_view c.push.new.self.items) (value_view c.in_ok-value.value) _ _
    (pushed value_view c.loop-item.values.items c.push.new.self.items c.in_ok-value.value _ c.in_ok-push.ensures.items refl)
    (mapped_ok (meaning (default_view c.args.subject) (node_view c.args.body.now)) xs i c.item-item.result h c.item-item.is (progress c.loop-item.meter) (progress c.evaluate_node.new.meter) _ c.in_ok-value.ensures.exact)

pub kept-loop-item-preserved : goal.kept-loop-item-preserved
kept-loop-item-preserved t c = let xs = c.args.items.now in
    let i : ℕ = c.loop-item.item-index in
    let h : i < length xs = omega arith in
    elim c.if-is_true.branch [
      | kept-then-is_true+in_ok-copy+in_ok-push w ↦
          let t : is_true (value_view c.in_ok-value.value) ≡ true = sym (ap is_true c.seen.ensures) ∙ (sym c.is_true.ensures ∙ w.if-is_true.true) in
          c.loop-item.invariant ∙ (one_more (map value_view c.loop-item.values.items) (map value_view w.push.new.self.items) (value_view c.item-item.result) _ _
          (pushed value_view c.loop-item.values.items w.push.new.self.items w.in_ok-copy.field-0 _ w.in_ok-push.ensures.items w.in_ok-copy.ensures)
          (kept_true (meaning (default_view c.args.subject) (node_view c.args.body.now)) xs i c.item-item.result h c.item-item.is (progress c.loop-item.meter) (progress c.evaluate_node.new.meter) _ c.in_ok-value.ensures.exact t) ∙ rw w.values-is refl)
      | kept-else-is_true w ↦
          let t : is_true (value_view c.in_ok-value.value) ≡ false = sym (ap is_true c.seen.ensures) ∙ (sym c.is_true.ensures ∙ w.if-is_true.false) in
          c.loop-item.invariant ∙ (ap (prepended (map value_view c.loop-item.values.items)) (kept_false (meaning (default_view c.args.subject) (node_view c.args.body.now)) xs i c.item-item.result h c.item-item.is (progress c.loop-item.meter) (progress c.evaluate_node.new.meter) _ c.in_ok-value.ensures.exact t) ∙ rw w.values-is refl)
    ]

pub occurs-returns-in_err-value : goal.occurs-returns-in_err-value
occurs-returns-in_err-value t c = let xs = c.args.items.now in
    let i : ℕ = c.loop-item.item-index in
    let h : i < length xs = omega arith in record {
      exact = exits _ _ _ _ c.from_residual.ensures.1
          (λ n. c.loop-item.invariant ∙ occurs_err (meaning (default_view c.args.subject) (node_view c.args.body.now)) xs i c.item-item.result h c.item-item.is c.args.wanted (progress c.loop-item.meter) _ (c.in_err-value.ensures.exact n));
    }

pub occurs-returns-then-is_true-wanted : goal.occurs-returns-then-is_true-wanted
occurs-returns-then-is_true-wanted t c = let xs = c.args.items.now in
    let i : ℕ = c.loop-item.item-index in
    let h : i < length xs = omega arith in
    let t : bool_eq c.args.wanted (is_true (value_view c.in_ok-value.value)) ≡ true = ap (bool_eq c.args.wanted) (sym (ap is_true c.seen.ensures) ∙ sym c.is_true.ensures) ∙ bool_eq-same c.args.wanted c.is_true.result c.if-is_true-wanted.true in record {
      exact = c.loop-item.invariant ∙ occurs_found (meaning (default_view c.args.subject) (node_view c.args.body.now)) xs i c.item-item.result h c.item-item.is c.args.wanted (progress c.loop-item.meter) (progress c.evaluate_node.new.meter) _ c.in_ok-value.ensures.exact t;
    }

pub occurs-loop-item-preserved : goal.occurs-loop-item-preserved
occurs-loop-item-preserved t c = let xs = c.args.items.now in
    let i : ℕ = c.loop-item.item-index in
    let h : i < length xs = omega arith in
    let t : bool_eq c.args.wanted (is_true (value_view c.in_ok-value.value)) ≡ false = ap (bool_eq c.args.wanted) (sym (ap is_true c.seen.ensures) ∙ sym c.is_true.ensures) ∙ bool_eq-other c.args.wanted c.is_true.result c.if-is_true-wanted.false in
    c.loop-item.invariant ∙ occurs_next (meaning (default_view c.args.subject) (node_view c.args.body.now)) xs i c.item-item.result h c.item-item.is c.args.wanted (progress c.loop-item.meter) (progress c.evaluate_node.new.meter) _ c.in_ok-value.ensures.exact t

pub occurs-returns : goal.occurs-returns
occurs-returns t c = let xs = c.args.items.now in
    let end : drop c.loop-item.item-index xs ≡ [] = drop_all c.loop-item.item-index xs (omega arith) in record {
      exact = c.loop-item.invariant ∙ (ap (λ ts. paid (progress c.loop-item.meter) (occurs c.args.wanted (meaning (default_view c.args.subject) (node_view c.args.body.now)) (map value_view ts))) end ∙ paid-gives _ _);
    }

pub reduced-returns-in_err-next : goal.reduced-returns-in_err-next
reduced-returns-in_err-next t c = let xs = c.args.items.now in
    let i : ℕ = c.loop-item.item-index in
    let h : i < length xs = omega arith in record {
      exact = exits _ _ _ _ c.from_residual.ensures.1
          (λ n. c.loop-item.invariant ∙ reduced_err (meaning (default_view c.args.subject) (node_view c.args.body.now)) xs i c.item-item.result h c.item-item.is (value_view c.loop-item.so_far) (progress c.loop-item.meter) _ (c.in_err-next.ensures.exact n));
    }

pub reduced-loop-item-preserved : goal.reduced-loop-item-preserved
reduced-loop-item-preserved t c = let xs = c.args.items.now in
    let i : ℕ = c.loop-item.item-index in
    let h : i < length xs = omega arith in
    c.loop-item.invariant ∙ (reduced_ok (meaning (default_view c.args.subject) (node_view c.args.body.now)) xs i c.item-item.result h c.item-item.is (value_view c.loop-item.so_far) (progress c.loop-item.meter) (progress c.evaluate_node.new.meter) _ c.in_ok-next.ensures.exact)

pub reduced-returns : goal.reduced-returns
reduced-returns t c = let xs = c.args.items.now in
    let end : drop c.loop-item.item-index xs ≡ [] = drop_all c.loop-item.item-index xs (omega arith) in record {
      exact = c.loop-item.invariant ∙ (ap (λ ts. paid (progress c.loop-item.meter) (reduced (meaning (default_view c.args.subject) (node_view c.args.body.now)) (value_view c.loop-item.so_far) (map value_view ts))) end ∙ paid-gives _ _);
    }

pub over-returns-then-len-lt2 : goal.over-returns-then-len-lt2
over-returns-then-len-lt2 t c = record {
  exact = ap (paid (progress c.args.meter.now)) (over_short (default_view c.args.subject) (scope_view c.args.scope) c.args.arguments.now.items c.args.operator (omega arith)) ∙ (paid-gives _ _ ∙ ap (λ s. Ok (s, progress c.args.meter.now)) (sym value_null));
}

pub over-returns-in_err-list : goal.over-returns-in_err-list
over-returns-in_err-list t c = let two : 2 ≤ length c.args.arguments.now.items = omega arith in record {
  exact = exits _ _ _ _ c.from_residual.ensures.1
      (λ n. over_err (default_view c.args.subject) (scope_view c.args.scope) c.args.arguments.now.items c.args.operator c.index.result.now (progress c.args.meter.now) _ two c.index.ensures (c.in_err-list.ensures.exact n));
}

pub over-returns : goal.over-returns
over-returns t c = let two : 2 ≤ length c.args.arguments.now.items = omega arith in record {
  exact = gives_same _ _ _ _ (over_ok (default_view c.args.subject) (scope_view c.args.scope) c.args.arguments.now.items c.args.operator c.index.result.now c.index-2.result.now (progress c.args.meter.now) (progress c.evaluate_node.new.meter) _ two c.index.ensures c.index-2.ensures c.in_ok-list.ensures.exact ∙ ap (λ ts. paid (progress c.evaluate_node.new.meter) (over_items c.args.operator (meaning (default_view c.args.subject) (node_view c.index-2.result.now)) ts)) (sym (ap (map value_view) c.as_slice.ensures.value ∙ c.in_ok-items.ensures))) c.over_items.ensures.exact;
}

pub over_items-returns-in_err-mapped-in-Map : goal.over_items-returns-in_err-mapped-in-Map
over_items-returns-in_err-mapped-in-Map t c = record {
  exact = exits _ _ _ _ c.from_residual.ensures.1
      (λ n. ap (λ o. paid (progress c.args.meter.now) (over_items o (meaning (default_view c.args.subject) (node_view c.args.body.now)) (map value_view c.args.items.now))) c.in-Map.is ∙ bind_err _ _ _ _ (c.in_err-mapped-in-Map.ensures.exact n));
}

pub over_items-returns-in_err-kept-in-Filter : goal.over_items-returns-in_err-kept-in-Filter
over_items-returns-in_err-kept-in-Filter t c = record {
  exact = exits _ _ _ _ c.from_residual-in_err-kept-in-Filter.ensures.1
      (λ n. ap (λ o. paid (progress c.args.meter.now) (over_items o (meaning (default_view c.args.subject) (node_view c.args.body.now)) (map value_view c.args.items.now))) c.in-Filter.is ∙ bind_err _ _ _ _ (c.in_err-kept-in-Filter.ensures.exact n));
}

pub over_items-returns-in_ok-mapped-in-Map : goal.over_items-returns-in_ok-mapped-in-Map
over_items-returns-in_ok-mapped-in-Map t c = record {
  exact = ap (λ o. paid (progress c.args.meter.now) (over_items o (meaning (default_view c.args.subject) (node_view c.args.body.now)) (map value_view c.args.items.now))) c.in-Map.is ∙ (bind_ok _ _ _ _ _ c.in_ok-mapped-in-Map.ensures.exact ∙ (paid-gives _ _ ∙ ap (λ s. Ok (s, progress c.mapped.new.meter)) (sym (value_items c.in_ok-mapped-in-Map.field-0))));
}

pub over_items-returns-in_ok-kept-in-Filter : goal.over_items-returns-in_ok-kept-in-Filter
over_items-returns-in_ok-kept-in-Filter t c = record {
  exact = ap (λ o. paid (progress c.args.meter.now) (over_items o (meaning (default_view c.args.subject) (node_view c.args.body.now)) (map value_view c.args.items.now))) c.in-Filter.is ∙ (bind_ok _ _ _ _ _ c.in_ok-kept-in-Filter.ensures.exact ∙ (paid-gives _ _ ∙ ap (λ s. Ok (s, progress c.kept.new.meter)) (sym (value_items c.in_ok-kept-in-Filter.field-0))));
}

pub over_items-returns-in_err-occurs-in-SomeOf : goal.over_items-returns-in_err-occurs-in-SomeOf
over_items-returns-in_err-occurs-in-SomeOf t c = record {
  exact = exits _ _ _ _ c.from_residual-in_err-occurs-in-SomeOf.ensures.1
      (λ n. ap (λ o. paid (progress c.args.meter.now) (over_items o (meaning (default_view c.args.subject) (node_view c.args.body.now)) (map value_view c.args.items.now))) c.in-SomeOf.is ∙ bind_err _ _ _ _ (c.in_err-occurs-in-SomeOf.ensures.exact n));
}

pub over_items-returns-in_ok-occurs-in-SomeOf : goal.over_items-returns-in_ok-occurs-in-SomeOf
over_items-returns-in_ok-occurs-in-SomeOf t c = record {
  exact = ap (λ o. paid (progress c.args.meter.now) (over_items o (meaning (default_view c.args.subject) (node_view c.args.body.now)) (map value_view c.args.items.now))) c.in-SomeOf.is ∙ (bind_ok _ _ _ _ _ c.in_ok-occurs-in-SomeOf.ensures.exact ∙ (paid-gives _ _ ∙ ap (λ s. Ok (s, progress c.occurs-in-SomeOf.new.meter)) (sym (value_bool _))));
}

pub over_items-returns-in_err-occurs-in-NoneOf : goal.over_items-returns-in_err-occurs-in-NoneOf
over_items-returns-in_err-occurs-in-NoneOf t c = record {
  exact = exits _ _ _ _ c.from_residual-in_err-occurs-in-NoneOf.ensures.1
      (λ n. ap (λ o. paid (progress c.args.meter.now) (over_items o (meaning (default_view c.args.subject) (node_view c.args.body.now)) (map value_view c.args.items.now))) c.in-NoneOf.is ∙ bind_err _ _ _ _ (c.in_err-occurs-in-NoneOf.ensures.exact n));
}

pub over_items-returns-in_ok-occurs-in-NoneOf : goal.over_items-returns-in_ok-occurs-in-NoneOf
over_items-returns-in_ok-occurs-in-NoneOf t c = record {
  exact = ap (λ o. paid (progress c.args.meter.now) (over_items o (meaning (default_view c.args.subject) (node_view c.args.body.now)) (map value_view c.args.items.now))) c.in-NoneOf.is ∙ (bind_ok _ _ _ _ _ c.in_ok-occurs-in-NoneOf.ensures.exact ∙ (paid-gives _ _ ∙ ap (λ s. Ok (s, progress c.occurs-in-NoneOf.new.meter)) (sym (value_bool _))));
}

pub over_items-returns-then-is_empty : goal.over_items-returns-then-is_empty
over_items-returns-then-is_empty t c = record {
  exact = ap (λ o. paid (progress c.args.meter.now) (over_items o (meaning (default_view c.args.subject) (node_view c.args.body.now)) (map value_view c.args.items.now))) c.in-AllOf.is ∙ (ap (paid (progress c.args.meter.now)) (all_of_none (meaning (default_view c.args.subject) (node_view c.args.body.now)) c.args.items.now (search rules)) ∙ (paid-gives _ _ ∙ ap (λ s. Ok (s, progress c.args.meter.now)) (sym (value_bool false))));
}

pub over_items-returns-in_err-occurs-in-AllOf : goal.over_items-returns-in_err-occurs-in-AllOf
over_items-returns-in_err-occurs-in-AllOf t c = record {
  exact = exits _ _ _ _ c.from_residual-in_err-occurs-in-AllOf.ensures.1
      (λ n. ap (λ o. paid (progress c.args.meter.now) (over_items o (meaning (default_view c.args.subject) (node_view c.args.body.now)) (map value_view c.args.items.now))) c.in-AllOf.is ∙ (ap (paid (progress c.args.meter.now)) (all_of_some (meaning (default_view c.args.subject) (node_view c.args.body.now)) c.args.items.now (search rules)) ∙ bind_err _ _ _ _ (c.in_err-occurs-in-AllOf.ensures.exact n)));
}

pub over_items-returns-in_ok-occurs-in-AllOf : goal.over_items-returns-in_ok-occurs-in-AllOf
over_items-returns-in_ok-occurs-in-AllOf t c = record {
  exact = ap (λ o. paid (progress c.args.meter.now) (over_items o (meaning (default_view c.args.subject) (node_view c.args.body.now)) (map value_view c.args.items.now))) c.in-AllOf.is ∙ (ap (paid (progress c.args.meter.now)) (all_of_some (meaning (default_view c.args.subject) (node_view c.args.body.now)) c.args.items.now (search rules)) ∙ (bind_ok _ _ _ _ _ c.in_ok-occurs-in-AllOf.ensures.exact ∙ (paid-gives _ _ ∙ ap (λ s. Ok (s, progress c.occurs.new.meter)) (sym (value_bool _)))));
}

pub over_items-returns-in_default : goal.over_items-returns-in_default
over_items-returns-in_default t c = record {
  exact = ap (paid (progress c.args.meter.now)) (over_items-other c.args.operator (meaning (default_view c.args.subject) (node_view c.args.body.now)) (map value_view c.args.items.now) c.in_default.not-Map c.in_default.not-Filter c.in_default.not-AllOf c.in_default.not-SomeOf c.in_default.not-NoneOf) ∙ (paid-gives _ _ ∙ ap (λ s. Ok (s, progress c.args.meter.now)) (sym value_null));
}

pub reduce-returns-then-len-lt2 : goal.reduce-returns-then-len-lt2
reduce-returns-then-len-lt2 t c = record {
  exact = ap (paid (progress c.args.meter.now)) (reduce_short (default_view c.args.subject) (scope_view c.args.scope) c.args.arguments.now.items (omega arith)) ∙ (paid-gives _ _ ∙ ap (λ s. Ok (s, progress c.args.meter.now)) (sym value_null));
}

pub reduce-returns-in_err-list : goal.reduce-returns-in_err-list
reduce-returns-in_err-list t c = let two : 2 ≤ length c.args.arguments.now.items = omega arith in record {
  exact = exits _ _ _ _ c.from_residual.ensures.1
      (λ n. reduce_err (default_view c.args.subject) (scope_view c.args.scope) c.args.arguments.now.items c.index.result.now (progress c.args.meter.now) _ two c.index.ensures (c.in_err-list.ensures.exact n));
}

pub reduce-returns-in_err-start : goal.reduce-returns-in_err-start
reduce-returns-in_err-start t c = let two : 2 ≤ length c.args.arguments.now.items = omega arith in record {
  exact = exits _ _ _ _ c.from_residual-in_err-start.ensures.1
      (λ n. reduce_start_err (default_view c.args.subject) (scope_view c.args.scope) c.args.arguments.now.items c.index.result.now (progress c.args.meter.now) (progress c.evaluate_node.new.meter) _ _ two c.index.ensures c.in_ok-list.ensures.exact (c.in_err-start.ensures.exact n));
}

pub reduce-returns : goal.reduce-returns
reduce-returns t c = let two : 2 ≤ length c.args.arguments.now.items = omega arith in record {
  exact = gives_same _ _ _ _ (reduce_ok (default_view c.args.subject) (scope_view c.args.scope) c.args.arguments.now.items c.index.result.now c.index-2.result.now (progress c.args.meter.now) (progress c.evaluate_node.new.meter) (progress c.start.new.meter) _ _ two c.index.ensures c.index-2.ensures c.in_ok-list.ensures.exact c.in_ok-start.ensures.exact ∙ ap (λ ts. paid (progress c.start.new.meter) (reduced (meaning (default_view c.args.subject) (node_view c.index-2.result.now)) (value_view c.in_ok-start.start) ts)) (sym (ap (map value_view) c.as_slice.ensures.value ∙ c.in_ok-items.ensures))) c.reduced.ensures.exact;
}

pub start-returns-then-len-lt3 : goal.start-returns-then-len-lt3
start-returns-then-len-lt3 t c = record {
  exact = ap (paid (progress c.args.meter.now)) (start_none (default_view c.args.subject) (scope_view c.args.scope) c.args.arguments.now.items (omega arith)) ∙ (paid-gives _ _ ∙ ap (λ s. Ok (s, progress c.args.meter.now)) (sym value_null));
}

pub input-returns-in-None : goal.input-returns-in-None
input-returns-in-None t c = record {
  exact = ap (λ b. paid (progress c.args.meter.now) (input (default_view c.args.subject) (by_meaning (default_view c.args.subject) (boxed_view b)) (scope_view c.args.scope))) c.in-None.is ∙ paid-gives _ _;
}

pub input-returns-in_err-evaluate_node-in-Some : goal.input-returns-in_err-evaluate_node-in-Some
input-returns-in_err-evaluate_node-in-Some t c = record {
  exact = exits _ _ _ _ c.from_residual.ensures.1
      (λ n. ap (λ b. paid (progress c.args.meter.now) (input (default_view c.args.subject) (by_meaning (default_view c.args.subject) (boxed_view b)) (scope_view c.args.scope))) c.in-Some.is ∙ (ap (λ m. paid (progress c.args.meter.now) (input (default_view c.args.subject) (Some (meaning (default_view c.args.subject) (node_view m))) (scope_view c.args.scope))) (sym c.deref.ensures) ∙ bind_err _ _ _ _ (c.in_err-evaluate_node-in-Some.ensures.exact n)));
}

pub input-returns-in_ok-evaluate_node-in-Some : goal.input-returns-in_ok-evaluate_node-in-Some
input-returns-in_ok-evaluate_node-in-Some t c = record {
  exact = ap (λ b. paid (progress c.args.meter.now) (input (default_view c.args.subject) (by_meaning (default_view c.args.subject) (boxed_view b)) (scope_view c.args.scope))) c.in-Some.is ∙ (ap (λ m. paid (progress c.args.meter.now) (input (default_view c.args.subject) (Some (meaning (default_view c.args.subject) (node_view m))) (scope_view c.args.scope))) (sym c.deref.ensures) ∙ (bind_ok _ _ _ _ _ c.in_ok-evaluate_node-in-Some.ensures.exact ∙ paid-gives _ _));
}

pub part-returns-in-Literal : goal.part-returns-in-Literal
part-returns-in-Literal t c = record {
  exact = ap (λ e. paid (progress c.args.meter.now) (part_of e (meaning (default_view c.args.subject) e) (scope_view c.args.scope))) (ap node_view c.in-Literal.is ∙ node_view-literal _) ∙ (paid-gives _ _ ∙ ap (λ s. Ok (s, progress c.args.meter.now)) (sym (value_lent _)));
}

pub shares-returns-in_err-name-in-Computed : goal.shares-returns-in_err-name-in-Computed
shares-returns-in_err-name-in-Computed t c = let xs = c.deref-bucket-items.result.now in
    let i : ℕ = c.loop-bucket.bucket-index in
    let h : i < length xs = omega arith in
    let d = default_view c.args.subject in
    let s = scope_view c.args.scope in record {
      exact = exits _ _ _ _ c.from_residual-in_err-name-in-Computed.ensures.1
          (λ n. ap (λ bs. paid (progress c.args.meter.now) (pairs (bucket_meanings (default_view c.args.subject) (buckets_view bs)) (scope_view c.args.scope))) (sym c.deref-bucket-items.ensures.value)
          ∙ (c.loop-bucket.invariant ∙ (ap (prepended (map weighted_variant_view c.loop-bucket.shares.items)) (computed_name_err d s xs i c.bucket-item.result h c.bucket-item.is c.in-Computed.name c.in-Computed.weight (progress c.loop-bucket.meter) _ c.in-Computed.is (c.in_err-name-in-Computed.ensures.exact n)) ∙ prepended-err _ _)));
    }

pub shares-returns-in_err-weight-in-Computed : goal.shares-returns-in_err-weight-in-Computed
shares-returns-in_err-weight-in-Computed t c = let xs = c.deref-bucket-items.result.now in
    let i : ℕ = c.loop-bucket.bucket-index in
    let h : i < length xs = omega arith in
    let d = default_view c.args.subject in
    let s = scope_view c.args.scope in record {
      exact = exits _ _ _ _ c.from_residual-in_err-weight-in-Computed.ensures.1
          (λ n. ap (λ bs. paid (progress c.args.meter.now) (pairs (bucket_meanings (default_view c.args.subject) (buckets_view bs)) (scope_view c.args.scope))) (sym c.deref-bucket-items.ensures.value)
          ∙ (c.loop-bucket.invariant ∙ (ap (prepended (map weighted_variant_view c.loop-bucket.shares.items)) (computed_weight_err d s xs i c.bucket-item.result h c.bucket-item.is c.in-Computed.name c.in-Computed.weight (progress c.loop-bucket.meter) (progress c.part.new.meter) _ _ c.in-Computed.is c.in_ok-name-in-Computed.ensures.exact (c.in_err-weight-in-Computed.ensures.exact n)) ∙ prepended-err _ _)));
    }

pub shares-returns : goal.shares-returns
shares-returns t c = let xs = c.deref-bucket-items.result.now in
    let end : drop c.loop-bucket.bucket-index xs ≡ [] = drop_all c.loop-bucket.bucket-index xs (omega arith) in record {
      exact = ap (λ bs. paid (progress c.args.meter.now) (pairs (bucket_meanings (default_view c.args.subject) (buckets_view bs)) (scope_view c.args.scope))) (sym c.deref-bucket-items.ensures.value) ∙ (c.loop-bucket.invariant ∙ (ap (λ bs. prepended (map weighted_variant_view c.loop-bucket.shares.items) (paid (progress c.loop-bucket.meter) (pairs (bucket_meanings (default_view c.args.subject) (buckets_view bs)) (scope_view c.args.scope)))) end ∙ prepended_all _ _));
    }

pub shares-loop-bucket-init : goal.shares-loop-bucket-init
shares-loop-bucket-init t c = sym (ap (λ ss. prepended (map weighted_variant_view ss) (paid (progress c.args.meter.now) (pairs (bucket_meanings (default_view c.args.subject) (buckets_view c.deref-bucket-items.result.now)) (scope_view c.args.scope)))) c.in_ok-shares.ensures.items ∙ prepended-none _)

pub shares-loop-bucket-preserved : goal.shares-loop-bucket-preserved
shares-loop-bucket-preserved t c = let xs = c.deref-bucket-items.result.now in
    let i : ℕ = c.loop-bucket.bucket-index in
    let h : i < length xs = omega arith in
    let d = default_view c.args.subject in
    let s = scope_view c.args.scope in
    let p = progress c.loop-bucket.meter in
    let before = c.loop-bucket.shares.items in
    elim c.match-bucket.branch [
      | shares-in-Literal+in_ok-push-in-Literal w ↦
          c.loop-bucket.invariant ∙ (one_more (map weighted_variant_view before) (map weighted_variant_view w.push.new.self.items) _ _ _
          (pushed weighted_variant_view before w.push.new.self.items _ _ w.in_ok-push-in-Literal.ensures.items (ap (λ (b : List ℕ). let e : Shape × Shape = (text b, whole (pos w.in-Literal.weight)) in e) w.as_str.ensures.value))
          (literal_ok d s xs i c.bucket-item.result h c.bucket-item.is w.in-Literal.name w.in-Literal.weight p w.in-Literal.is) ∙ rw (w.meter-is, w.shares-is) refl)
      | shares-in-Computed+in_ok-name-in-Computed+in_ok-weight-in-Computed+in_ok-push-in-Computed w ↦
          c.loop-bucket.invariant ∙ (one_more (map weighted_variant_view before) (map weighted_variant_view w.push-in-Computed.new.self.items) _ _ _
          (pushed weighted_variant_view before w.push-in-Computed.new.self.items _ _ w.in_ok-push-in-Computed.ensures.items refl)
          (computed_ok d s xs i c.bucket-item.result h c.bucket-item.is w.in-Computed.name w.in-Computed.weight p (progress w.part.new.meter) (progress w.part-in-Computed.new.meter) _ _ w.in-Computed.is w.in_ok-name-in-Computed.ensures.exact w.in_ok-weight-in-Computed.ensures.exact) ∙ rw (w.meter-is, w.shares-is) refl)
    ]
