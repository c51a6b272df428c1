-- What an evaluation knows of each site of an expression, it knows of those of its parts.
use Rattle.std.proofs.Common.{◌≡◌, ℕ, zero, suc, ◌<◌, List, [], ◌∷◌, ◌++◌, length, get_or, Option, Some, Box, Vec, Global, sym, ap, ◌∙◌, subst, arith}
use Rattle.std.proofs.lemmas.List.Elements.{All-nil, All-cons, All-head, All-tail}
use Rattle.logic_ast.specs.Ends.{ends_of, HasEnds}
use Rattle.logic_ast.specs.Sites.{Site, preorder, preorder_in, preorder_in_by, preorder_in_buckets, preorder_in_bucket}
use Rattle.logic_ast.specs.View.{node_view, nodes_view, boxed_view, bucket_view, buckets_view}
use Rattle.logic_ast.specs.declared.node.Bucket.{Bucket}
use Rattle.logic_ast.specs.declared.node.Bucket.TheVariants.{Computed}
use Rattle.logic_ast.specs.declared.node.Node.{Node}
use Rattle.logic_ast.specs.declared.node.Node.TheVariants as node
use Rattle.logic_ast.specs.declared.operator.Operator.{Operator}
use Rattle.logic_ast.proofs.Views.{node_view-fractional}
use Rattle.logic_eval.specs.Literal.{AreEnds, AreSummed, table_of}
use Rattle.logic_eval.specs.declared.scope.Subject.{Subject}
use Rattle.logic_eval.proofs.Branches.{node_view-list, node_view-operation}
use Rattle.logic_eval.proofs.Literals.{are_ends}

module _ (s : Subject) where
  left : (xs ys : List Site) → AreSummed s (xs ++ ys) → AreSummed s xs
  unfolding AreSummed
  left [] ys h = All-nil (HasEnds (table_of s))
  left (x ∷ xs) ys h = All-cons (HasEnds (table_of s)) x xs (All-head (HasEnds (table_of s)) x (xs ++ ys) h) (left xs ys (All-tail (HasEnds (table_of s)) x (xs ++ ys) h))

  right : (xs ys : List Site) → AreSummed s (xs ++ ys) → AreSummed s ys
  unfolding AreSummed
  right [] ys h = h
  right (x ∷ xs) ys h = right xs ys (All-tail (HasEnds (table_of s)) x (xs ++ ys) h)

  -- ---- of one of several nodes

  pub in_nodes : (xs : List Node) (i : ℕ) (x : Node) → i < length xs → x ≡ get_or xs i x → AreSummed s (preorder_in (nodes_view xs)) → AreSummed s (preorder (node_view x))
  in_nodes [] i x h is all = absurd (omega arith)
  in_nodes (y ∷ ys) zero x h is all = subst (λ n. AreSummed s (preorder (node_view n))) (sym is) (left (preorder (node_view y)) (preorder_in (nodes_view ys)) all)
  in_nodes (y ∷ ys) (suc i) x h is all = in_nodes ys i x (omega arith) is (right (preorder (node_view y)) (preorder_in (nodes_view ys)) all)

  -- ---- of one of several buckets

  in_bucket : (xs : List (Bucket Node)) (i : ℕ) (x : Bucket Node) → i < length xs → x ≡ get_or xs i x → AreSummed s (preorder_in_buckets (buckets_view xs)) → AreSummed s (preorder_in_bucket (bucket_view x))
  in_bucket [] i x h is all = absurd (omega arith)
  in_bucket (y ∷ ys) zero x h is all = subst (λ b. AreSummed s (preorder_in_bucket (bucket_view b))) (sym is) (left (preorder_in_bucket (bucket_view y)) (preorder_in_buckets (buckets_view ys)) all)
  in_bucket (y ∷ ys) (suc i) x h is all = in_bucket ys i x (omega arith) is (right (preorder_in_bucket (bucket_view y)) (preorder_in_buckets (buckets_view ys)) all)

  pub in_name : (xs : List (Bucket Node)) (i : ℕ) (x : Bucket Node) (name weight : Node) → i < length xs → x ≡ get_or xs i x → x ≡ Computed name weight → AreSummed s (preorder_in_buckets (buckets_view xs))
      → AreSummed s (preorder (node_view name))
  in_name xs i x name weight h is computed all =
      left (preorder (node_view name)) (preorder (node_view weight)) (subst (λ b. AreSummed s (preorder_in_bucket (bucket_view b))) computed (in_bucket xs i x h is all))

  pub in_weight : (xs : List (Bucket Node)) (i : ℕ) (x : Bucket Node) (name weight : Node) → i < length xs → x ≡ get_or xs i x → x ≡ Computed name weight → AreSummed s (preorder_in_buckets (buckets_view xs))
      → AreSummed s (preorder (node_view weight))
  in_weight xs i x name weight h is computed all =
      right (preorder (node_view name)) (preorder (node_view weight)) (subst (λ b. AreSummed s (preorder_in_bucket (bucket_view b))) computed (in_bucket xs i x h is all))

  -- ---- of the parts of a node

  pub in_boxed : (o : Option (Box Node Global)) (b : Box Node Global) → o ≡ Some b → AreSummed s (preorder_in_by (boxed_view o)) → AreSummed s (preorder (node_view b.value))
  in_boxed o b is all = subst (λ x. AreSummed s (preorder_in_by (boxed_view x))) is all

  pub in_list : (n : Node) (v : Vec Node Global) → n ≡ node.List v → AreSummed s (preorder (node_view n)) → AreSummed s (preorder_in (nodes_view v.items))
  in_list n v is all = subst (λ e. AreSummed s (preorder e)) (ap node_view is ∙ node_view-list v) all

  pub in_operation : (n : Node) (o : Operator) (v : Vec Node Global) → n ≡ node.Operation o v → AreSummed s (preorder (node_view n)) → AreSummed s (preorder_in (nodes_view v.items))
  in_operation n o v is all = subst (λ e. AreSummed s (preorder e)) (ap node_view is ∙ node_view-operation o v) all

  module _ (n : Node) (site : ℕ) (b : Option (Box Node Global)) (bs : Vec (Bucket Node) Global) (is : n ≡ node.Fractional site b bs) (all : AreSummed s (preorder (node_view n))) where
    whole : AreSummed s (record { number = site; bucketing = boxed_view b; buckets = buckets_view bs.items } ∷ (preorder_in_by (boxed_view b) ++ preorder_in_buckets (buckets_view bs.items)))
    whole = subst (λ e. AreSummed s (preorder e)) (ap node_view is ∙ node_view-fractional site b bs) all

    rest : AreSummed s (preorder_in_by (boxed_view b) ++ preorder_in_buckets (buckets_view bs.items))
    unfolding AreSummed
    rest = All-tail (HasEnds (table_of s)) _ (preorder_in_by (boxed_view b) ++ preorder_in_buckets (buckets_view bs.items)) whole

    own : get_or (table_of s) site [] ≡ ends_of (buckets_view bs.items)
    unfolding AreSummed
    own = All-head (HasEnds (table_of s)) _ (preorder_in_by (boxed_view b) ++ preorder_in_buckets (buckets_view bs.items)) whole

    pub in_by : AreSummed s (preorder_in_by (boxed_view b))
    in_by = left (preorder_in_by (boxed_view b)) (preorder_in_buckets (buckets_view bs.items)) rest

    pub in_buckets : AreSummed s (preorder_in_buckets (buckets_view bs.items))
    in_buckets = right (preorder_in_by (boxed_view b)) (preorder_in_buckets (buckets_view bs.items)) rest

    -- its own cumulative weights, where there are some
    pub own_ends : (sums : List ℕ) → sums ≡ get_or (table_of s) site [] → 0 < length sums → AreEnds (buckets_view bs.items) sums
    own_ends sums read some = are_ends (buckets_view bs.items) sums (read ∙ own) some
