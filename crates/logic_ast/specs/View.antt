-- The expression that an `Expr` or a `Node` is, without where its texts and lists lie in memory.
use Rattle.std.specs.Prelude.{List, [], ◌∷◌, map, string_bytes, Option, Some, None, option_map, Box}
use Rattle.std.specs.declared.alloc.Global.{Global}
use Rattle.flag_text.specs.View.{view as tree_view}
use Rattle.logic_ast.specs.Expression.{Expression, literal, list, operation, fractional, Expressions, no_expressions, expression, By, no_by, by, Buckets, no_buckets, bucket, Bucket, literal_bucket, computed_bucket}
use Rattle.logic_ast.specs.declared.node.Bucket.{Bucket as BucketOf}
use Rattle.logic_ast.specs.declared.node.Bucket.TheVariants.{Literal, Computed}
use Rattle.logic_ast.specs.declared.node.Node.{Node, fold-Node}
use Rattle.logic_ast.specs.declared.node.Node.TheOpen.{Node-F}

abbrev pub expressions_of : List Expression → Expressions
expressions_of [] = no_expressions
expressions_of (e ∷ es) = expression e (expressions_of es)

abbrev pub by_of : Option Expression → By
by_of None = no_by
by_of (Some e) = by e

abbrev pub bucket_of : BucketOf Expression → Bucket
bucket_of (Literal name weight) = literal_bucket (string_bytes name) weight
bucket_of (Computed name weight) = computed_bucket name weight

abbrev pub buckets_of : List Bucket → Buckets
buckets_of [] = no_buckets
buckets_of (b ∷ bs) = bucket b (buckets_of bs)

-- one level, with each node inside already seen as its expression
abbrev pub view_step : Node-F Expression → Expression
view_step (Node-F.Literal t) = literal (tree_view t)
view_step (Node-F.List es) = list (expressions_of es.items)
view_step (Node-F.Operation o es) = operation o (expressions_of es.items)
view_step (Node-F.Fractional site b bs) = fractional site (by_of (option_map (λ e. e.value) b)) (buckets_of (map bucket_of bs.items))

abbrev pub node_view : Node → Expression
node_view = fold-Node Expression view_step

abbrev pub nodes_view : List Node → Expressions
nodes_view es = expressions_of (map node_view es)

abbrev pub boxed_view : Option (Box Node Global) → By
boxed_view b = by_of (option_map (λ e. node_view e.value) b)

abbrev pub bucket_view : BucketOf Node → Bucket
bucket_view (Literal name weight) = literal_bucket (string_bytes name) weight
bucket_view (Computed name weight) = computed_bucket (node_view name) (node_view weight)

abbrev pub buckets_view : List (BucketOf Node) → Buckets
buckets_view bs = buckets_of (map bucket_view bs)
