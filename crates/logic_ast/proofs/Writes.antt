-- Lists of nodes and of buckets are written one by one.
use Rattle.std.proofs.Common.{◌≡◌, List, [], ◌∷◌, map, refl, sym, ap, ◌∙◌}
use Rattle.std.specs.List.{insert}
use Rattle.flag_text.specs.Shape.{item}
use Rattle.flag_text.specs.View.{view as tree_view, items_of, items_view}
use Rattle.flag_text.specs.declared.tree.Tree.{Tree}
use Rattle.logic_ast.specs.View.{node_view, nodes_view, bucket_view, buckets_view}
use Rattle.logic_ast.specs.Writing.{written, all_written, bucket_written, buckets_written}
use Rattle.logic_ast.specs.declared.node.Bucket.{Bucket as BucketOf}
use Rattle.logic_ast.specs.declared.node.Node.{Node}

all_written-map : (ns : List Node) → all_written (nodes_view ns) ≡ items_of (map (λ n. written (node_view n)) ns)
all_written-map [] = refl
all_written-map (n ∷ ns) = ap (item (written (node_view n))) (all_written-map ns)

buckets_written-map : (bs : List (BucketOf Node)) → buckets_written (buckets_view bs) ≡ items_of (map (λ b. bucket_written (bucket_view b)) bs)
buckets_written-map [] = refl
buckets_written-map (b ∷ bs) = ap (item (bucket_written (bucket_view b))) (buckets_written-map bs)

pub items_view-nodes : (ts : List Tree) (ns : List Node) → map tree_view ts ≡ map (λ n. written (node_view n)) ns → items_view ts ≡ all_written (nodes_view ns)
items_view-nodes ts ns e = ap items_of e ∙ sym (all_written-map ns)

pub items_view-buckets : (ts : List Tree) (bs : List (BucketOf Node)) → map tree_view ts ≡ map (λ b. bucket_written (bucket_view b)) bs → items_view ts ≡ buckets_written (buckets_view bs)
items_view-buckets ts bs e = ap items_of e ∙ sym (buckets_written-map bs)

-- put in front
pub inserted : (ts : List Tree) (t : Tree) → items_view (insert ts 0 t) ≡ item (tree_view t) (items_view ts)
inserted [] t = refl
inserted (u ∷ ts) t = refl
