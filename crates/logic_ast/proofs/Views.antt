-- What a node is seen as, by what it is made of.
use Rattle.std.proofs.Common.{◌≡◌, ℕ, pos, List, [], ◌∷◌, map, Option, Some, None, Box, Vec, Global, string_bytes, refl, ap, ◌∙◌}
use Rattle.flag_text.specs.Shape.{whole}
use Rattle.flag_text.specs.View.{view}
use Rattle.flag_text.specs.declared.tree.Tree.{Tree, the_lemmas as tree_lemmas}
use Rattle.flag_text.specs.declared.tree.Tree.TheVariants.{Whole}
use Rattle.logic_ast.specs.Expression.{Expression, literal, fractional, literal_bucket, computed_bucket}
use Rattle.logic_ast.specs.View.{bucket_of, node_view, boxed_view, bucket_view, buckets_view}
use Rattle.logic_ast.specs.declared.node.Bucket.{Bucket as BucketOf}
use Rattle.logic_ast.specs.declared.node.Bucket.TheVariants.{Literal, Computed}
use Rattle.logic_ast.specs.declared.node.Node.{Node, the_lemmas}
use Rattle.logic_ast.specs.declared.node.Node.TheVariants.{Fractional, Literal as Leaf}
use Rattle.logic_ast.specs.declared.node.Node.TheShapes.{former-Node-Fractional-2-at-4}

-- each bucket, seen within its node, is as it is seen alone
buckets-seen : (bs : List (BucketOf Node)) → map bucket_of (map (former-Node-Fractional-2-at-4.map Node Expression node_view) bs) ≡ map bucket_view bs
buckets-seen [] = refl
buckets-seen (Literal name weight ∷ bs) = ap (λ xs. literal_bucket (string_bytes name) weight ∷ xs) (buckets-seen bs)
buckets-seen (Computed name weight ∷ bs) = ap (λ xs. computed_bucket (node_view name) (node_view weight) ∷ xs) (buckets-seen bs)

pub node_view-fractional : (site : ℕ) (b : Option (Box Node Global)) (bs : Vec (BucketOf Node) Global)
    → node_view (Fractional site b bs) ≡ fractional site (boxed_view b) (buckets_view bs.items)
node_view-fractional site None bs = simp the_lemmas (rw (buckets-seen bs.items) refl)
node_view-fractional site (Some b) bs = simp the_lemmas (rw (buckets-seen bs.items) refl)

view-one : view (Whole (pos 1)) ≡ whole (pos 1)
view-one = simp tree_lemmas

pub node_view-literal : (t : Tree) → node_view (Leaf t) ≡ literal (view t)
node_view-literal t = simp the_lemmas

-- the weight that is left out
pub node_view-one : node_view (Leaf (Whole (pos 1))) ≡ literal (whole (pos 1))
node_view-one = node_view-literal (Whole (pos 1)) ∙ ap literal view-one
