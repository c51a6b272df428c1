use Rattle.std.proofs.Common.{ap, ◌∙◌, rules}
use Rattle.logic_ast.specs.View.{node_view, nodes_view, boxed_view, buckets_view}
use Rattle.logic_ast.specs.declared.node.Node.{the_lemmas}
use Rattle.logic_ast.proofs.Views.{node_view-fractional}
use Rattle.site_pages.proofs.Parts.{buckets_are_whole, fractional_text, list_text, node_view-list, node_view-operation, on_ok, operated, operation_text}
use Rattle.site_pages.proofs.text.+push.Goals as goal

pub push_node-push_buckets-requires : goal.push_node-push_buckets-requires
push_node-push_buckets-requires t c = (
  search (rules, the_lemmas),
  buckets_are_whole (node_view c.args.node.now) c.in-Fractional.site (boxed_view c.in-Fractional.by) (buckets_view c.in-Fractional.buckets.items) (ap node_view c.in-Fractional.is ∙ node_view-fractional _ _ _) c.requires,
)

pub push_node-returns-in_ok-push_str-in-List : goal.push_node-returns-in_ok-push_str-in-List
push_node-returns-in_ok-push_str-in-List t c =
    on_ok c.push_nodes.result _ _ (λ is. list_text _ _ _ (node_view c.args.node.now) (nodes_view c.in-List.items.items) c.in_ok-push_str-in-List.ensures.bytes is (ap node_view c.in-List.is ∙ node_view-list _)) c.push_nodes.ensures

pub push_node-returns-in_ok-push_nodes-in-Operation : goal.push_node-returns-in_ok-push_nodes-in-Operation
push_node-returns-in_ok-push_nodes-in-Operation t c =
    let after = c.push_str-in-Operation.ensures.bytes in
    operated c.push_str-in-Operation.result _ _ _ after (λ is. operation_text _ _ _ _ c.name.result.now (node_view c.args.node.now) c.in-Operation.operator (nodes_view c.in-Operation.arguments.items) c.name.ensures c.in_ok-push_opening-in-Operation.ensures c.in_ok-push_nodes-in-Operation.ensures is (ap node_view c.in-Operation.is ∙ node_view-operation _ _))

pub push_node-returns-in_ok-push_buckets-in-Fractional : goal.push_node-returns-in_ok-push_buckets-in-Fractional
push_node-returns-in_ok-push_buckets-in-Fractional t c =
    operated c.push_str-in-Fractional.result _ _ _ c.push_str-in-Fractional.ensures.bytes
    (λ is. fractional_text _ _ _ _ _ (node_view c.args.node.now) c.in-Fractional.site c.in-Fractional.by c.is_some.result (buckets_view c.in-Fractional.buckets.items) c.is_some.ensures c.in_ok-push_opening-in-Fractional.ensures c.in_ok-push_by-in-Fractional.ensures c.in_ok-push_buckets-in-Fractional.ensures is (ap node_view c.in-Fractional.is ∙ node_view-fractional _ _ _))
