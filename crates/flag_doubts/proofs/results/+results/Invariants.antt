use Rattle.std.proofs.Common.{◌≡◌, ◌*◌, drop}
use Rattle.std.specs.List.{list_any}
use Rattle.flag_defs.specs.Flag.{flag_view}
use Rattle.logic_ast.specs.View.{nodes_view, buckets_view}
use Rattle.flag_doubts.specs.Outcomes.{arguments, branches, names}
use Rattle.flag_doubts.specs.Views.{is_sought}
use Rattle.flag_doubts.proofs.results.+results.Given as goal

abbrev pub invariant-is_argument-loop-place : goal.invariant-is_argument-loop-place
invariant-is_argument-loop-place l =
    list_any (is_sought l.sought (flag_view l.flag)) (arguments l.wanted (nodes_view l.nodes.items)) ≡ list_any (is_sought l.sought (flag_view l.flag)) (arguments l.wanted (nodes_view (drop l.place l.nodes.items)))

abbrev pub invariant-is_branch-loop-pair : goal.invariant-is_branch-loop-pair
invariant-is_branch-loop-pair l =
    list_any (is_sought l.sought (flag_view l.flag)) (branches (nodes_view l.nodes.items)) ≡ list_any (is_sought l.sought (flag_view l.flag)) (branches (nodes_view (drop (2 * l.pair) l.nodes.items)))

abbrev pub invariant-is_name-loop-bucket : goal.invariant-is_name-loop-bucket
invariant-is_name-loop-bucket l =
    list_any (is_sought l.sought (flag_view l.flag)) (names (buckets_view l.bucket-items)) ≡ list_any (is_sought l.sought (flag_view l.flag)) (names (buckets_view (drop l.bucket-index l.bucket-items)))
