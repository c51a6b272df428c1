use Rattle.std.proofs.Common.{◌≡◌, take, map, ap, ap₂, sym, ◌∙◌, arith}
use Rattle.std.proofs.lemmas.List.{take_all}
use Rattle.logic_ast.specs.Expression.{fractional}
use Rattle.logic_ast.specs.Sites.{with_entries, bucket_with_entries}
use Rattle.logic_ast.specs.View.{expressions_of, buckets_of, node_view, bucket_view}
use Rattle.logic_ast.proofs.Lowered.{by_lowered-zero}
use Rattle.logic_ast.proofs.Replaced.{all_with_entries-map, buckets_with_entries-map, with_entries-here, with_entries-elsewhere}
use Rattle.logic_ast.proofs.Views.{node_view-fractional}
use Rattle.logic_ast.proofs.replace.+replace.Goals as goal

pub all_with_entries-returns : goal.all_with_entries-returns
all_with_entries-returns t c =
    let n = c.args.n in
    let r = c.args.rule.now in
    let xs = c.deref-node-items.result.now in
    let all : take c.loop-node.node-index xs ≡ xs = take_all c.loop-node.node-index xs (omega arith) in
    ap expressions_of (c.loop-node.invariant ∙ ap (map (λ e. with_entries n r (node_view e))) (all ∙ c.deref-node-items.ensures.value)) ∙ sym (all_with_entries-map n r _)

pub buckets_with_entries-returns : goal.buckets_with_entries-returns
buckets_with_entries-returns t c =
    let n = c.args.n in
    let r = c.args.rule.now in
    let xs = c.deref-bucket-items.result.now in
    let all : take c.loop-bucket.bucket-index xs ≡ xs = take_all c.loop-bucket.bucket-index xs (omega arith) in
    ap buckets_of (c.loop-bucket.invariant ∙ ap (map (λ b. bucket_with_entries n r (bucket_view b))) (all ∙ c.deref-bucket-items.ensures.value)) ∙ sym (buckets_with_entries-map n r _)

pub with_entries-returns-then-site-n : goal.with_entries-returns-then-site-n
with_entries-returns-then-site-n t c =
    let n = c.args.n in
    let r = c.args.rule.now in
    node_view-fractional _ _ _
    ∙ (ap₂ (fractional c.in-Fractional.site) (c.in_ok-by-in-Fractional.ensures ∙ by_lowered-zero _) c.in_ok-buckets-in-Fractional.ensures
    ∙ sym (ap (with_entries n r) (ap node_view c.in-Fractional.is ∙ node_view-fractional _ _ _) ∙ with_entries-here n r c.in-Fractional.site _ _ c.if-site-n.true))

pub with_entries-returns-in_ok-buckets-in-Fractional-2 : goal.with_entries-returns-in_ok-buckets-in-Fractional-2
with_entries-returns-in_ok-buckets-in-Fractional-2 t c =
    let n = c.args.n in
    let r = c.args.rule.now in
    node_view-fractional _ _ _
    ∙ (ap₂ (fractional c.in-Fractional.site) c.in_ok-by-in-Fractional-2.ensures c.in_ok-buckets-in-Fractional-2.ensures
    ∙ sym (ap (with_entries n r) (ap node_view c.in-Fractional.is ∙ node_view-fractional _ _ _) ∙ with_entries-elsewhere n r c.in-Fractional.site _ _ c.if-site-n.false))
