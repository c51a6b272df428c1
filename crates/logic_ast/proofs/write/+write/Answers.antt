use Rattle.std.proofs.Common.{◌≡◌, take, map, codes, Option, Box, Vec, Global, ap, ap₂, sym, ◌∙◌, arith}
use Rattle.std.proofs.lemmas.List.{take_all}
use Rattle.std.proofs.lemmas.Result.{IfOk-weaker}
use Rattle.flag_text.specs.Shape.{item}
use Rattle.flag_text.specs.View.{items_view}
use Rattle.flag_text.specs.declared.tree.Tree.{Tree}
use Rattle.logic_ast.specs.View.{node_view, boxed_view, bucket_view, buckets_view}
use Rattle.logic_ast.specs.Writing.{applied, written, by_written, bucket_written, buckets_written}
use Rattle.logic_ast.specs.declared.node.Node.{Node}
use Rattle.logic_ast.proofs.Views.{node_view-fractional}
use Rattle.logic_ast.proofs.Writes.{items_view-nodes, items_view-buckets, inserted}
use Rattle.logic_ast.proofs.write.+write.Goals as goal
use Rattle.logic_ast.proofs.write.+write.Goals.{write_node-in-Some+in_ok-write_node-in-Fractional+in_ok-insert-in-Fractional, write_node-in_default}

pub write_nodes-returns : goal.write_nodes-returns
write_nodes-returns t c =
    let xs = c.deref-node-items.result.now in
    let all : take c.loop-node.node-index xs ≡ xs = take_all c.loop-node.node-index xs (omega arith) in
    items_view-nodes _ _ (c.loop-node.invariant ∙ ap (map (λ n. written (node_view n))) (all ∙ c.deref-node-items.ensures.value))

pub write_buckets-returns : goal.write_buckets-returns
write_buckets-returns t c =
    let xs = c.deref-bucket-items.result.now in
    let all : take c.loop-bucket.bucket-index xs ≡ xs = take_all c.loop-bucket.bucket-index xs (omega arith) in
    items_view-buckets _ _ (c.loop-bucket.invariant ∙ ap (map (λ b. bucket_written (bucket_view b))) (all ∙ c.deref-bucket-items.ensures.value))

pub write_node-returns-after-by : goal.write_node-returns-after-by
write_node-returns-after-by t c =
    let bs = buckets_view c.in-Fractional.buckets.items in
    let whole = ap written (ap node_view c.in-Fractional.is ∙ node_view-fractional _ _ _) in
    let put = λ (e : items_view c.match-by.arguments.items ≡ by_written (boxed_view c.in-Fractional.by) (buckets_written bs)).
    IfOk-weaker c.apply-in-Fractional.result _ _ (λ t is. is ∙ (ap (applied (codes "fractional")) e ∙ sym whole)) c.apply-in-Fractional.ensures in
    elim c.match-by.branch [
      | write_node-in-Some+in_ok-write_node-in-Fractional+in_ok-insert-in-Fractional w ↦
          put
          (ap (λ (v : Vec Tree Global). items_view v.items) w.arguments-is
          ∙ (ap items_view w.in_ok-insert-in-Fractional.ensures.items
          ∙ (inserted _ _
          ∙ (ap₂ item (w.in_ok-write_node-in-Fractional.ensures ∙ ap (λ n. written (node_view n)) w.deref.ensures) c.in_ok-arguments-in-Fractional.ensures
          ∙ sym (ap (λ (b : Option (Box Node Global)). by_written (boxed_view b) (buckets_written bs)) w.in-Some.is)))))
      | write_node-in_default w ↦
          put
          (ap (λ (v : Vec Tree Global). items_view v.items) w.arguments-is
          ∙ (c.in_ok-arguments-in-Fractional.ensures ∙ sym (ap (λ (b : Option (Box Node Global)). by_written (boxed_view b) (buckets_written bs)) w.in_default.is)))
    ]
