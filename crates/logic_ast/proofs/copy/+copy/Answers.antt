use Rattle.std.proofs.Common.{◌≡◌, ◌-◌, take, map, ap, ap₂, sym, ◌∙◌, arith}
use Rattle.std.proofs.lemmas.List.{take_all}
use Rattle.logic_ast.specs.Expression.{fractional}
use Rattle.logic_ast.specs.Sites.{lowered, bucket_lowered}
use Rattle.logic_ast.specs.View.{expressions_of, buckets_of, node_view, bucket_view}
use Rattle.logic_ast.proofs.Lowered.{all_lowered-map, buckets_lowered-map}
use Rattle.logic_ast.proofs.Views.{node_view-fractional}
use Rattle.logic_ast.proofs.copy.+copy.Goals as goal

pub lowered-returns-in_ok-buckets-in-Fractional : goal.lowered-returns-in_ok-buckets-in-Fractional
lowered-returns-in_ok-buckets-in-Fractional t c =
    let d = c.args.less in
    node_view-fractional _ _ _
    ∙ (rw c.saturating_sub-site.ensures (ap₂ (fractional (c.in-Fractional.site - d)) c.in_ok-by-in-Fractional.ensures c.in_ok-buckets-in-Fractional.ensures)
    ∙ sym (ap (λ e. lowered d e) (ap node_view c.in-Fractional.is ∙ node_view-fractional _ _ _)))

pub all_lowered-returns : goal.all_lowered-returns
all_lowered-returns t c =
    let d = c.args.less in
    let xs = c.deref-node-items.result.now in
    let all : take c.loop-node.node-index xs ≡ xs = take_all c.loop-node.node-index xs (omega arith) in
    ap expressions_of (c.loop-node.invariant ∙ ap (map (λ n. lowered d (node_view n))) (all ∙ c.deref-node-items.ensures.value)) ∙ sym (all_lowered-map d _)

pub buckets_lowered-returns : goal.buckets_lowered-returns
buckets_lowered-returns t c =
    let d = c.args.less in
    let xs = c.deref-bucket-items.result.now in
    let all : take c.loop-bucket.bucket-index xs ≡ xs = take_all c.loop-bucket.bucket-index xs (omega arith) in
    ap buckets_of (c.loop-bucket.invariant ∙ ap (map (λ b. bucket_lowered d (bucket_view b))) (all ∙ c.deref-bucket-items.ensures.value)) ∙ sym (buckets_lowered-map d _)
