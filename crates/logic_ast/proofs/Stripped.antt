-- The size of what is written for an expression is that of the tree that is written without its literal buckets.
use Rattle.std.proofs.Common.{◌≡◌, ℕ, suc, ◌+◌, ◌^◌, true, not, ◌==◌, nat_lt, max, List, refl, ap, ap₂, sym, ◌∙◌, arith}
use Rattle.std.specs.Prelude.{codes}
use Rattle.flag_text.specs.Shape as shape
use Rattle.flag_text.specs.Shape.{Shape, null, boolean, whole, other, text, object, Items, no_items, item, no_members, member, is_whole}
use Rattle.logic_ast.specs.Expression.{Expression, literal, list, operation, fractional, Expressions, no_expressions, expression, By, no_by, by, Buckets, no_buckets, bucket, literal_bucket, computed_bucket}
use Rattle.logic_ast.specs.Formed.{is_list, is_literal, expression_count, are_literals, is_formed, are_formed, by_is_formed, buckets_are_formed, bucket_is_formed}
use Rattle.logic_ast.specs.Operator.{operator_name, takes}
use Rattle.logic_ast.specs.Sites.{sites, sites_in_by, sites_in_bucket}
use Rattle.logic_ast.specs.Size.{Size, nothing, beside, around, full_size, items_size, expression_size, expressions_size, buckets_size}
use Rattle.logic_ast.specs.Stripped.{without_literals, all_without_literals, by_without_literals, computed_buckets}
use Rattle.logic_ast.specs.Writing.{written, all_written, by_written, buckets_written}
use Rattle.logic_ast.proofs.Measured.{beside-nothing, buckets_size-other, fractional-size}
use Rattle.logic_ast.proofs.Operators.{is_fractional-operator_name}
use Rattle.logic_ast.proofs.Written.{left, right, entry_of-computed, not-true, written-no_list}

nothing-beside : (s : Size) → beside nothing s ≡ s
nothing-beside s =
    let n : 0 + s.nodes ≡ s.nodes = omega arith in
    let l : max 0 s.levels ≡ s.levels = omega arith in
    ap₂ (λ x y. let made : Size = record { nodes = x; levels = y } in made) n l

-- an object of one member is a node round its value
applied-size : (name : List ℕ) (ts : Items) → full_size (object (member name (shape.list ts) no_members)) ≡ around (around (items_size ts))
applied-size name ts = ap around (beside-nothing (around (items_size ts)))

literal-size : (t : Shape) → is_literal t ≡ true → expression_size t ≡ full_size t
literal-size null h = refl
literal-size (boolean b) h = refl
literal-size (whole n) h = refl
literal-size other h = refl
literal-size (text s) h = refl
literal-size (shape.list ts) h = cc
literal-size (object no_members) h = refl
literal-size (object (member name t no_members)) h = cc
literal-size (object (member name t (member l u ms))) h = refl

mutual
  pub size-written : (k : ℕ) (e : Expression) → is_formed k e ≡ true → expression_size (written e) ≡ full_size (written (without_literals e))
  size-written k (literal t) f = literal-size t (left (is_literal t) _ f)
  size-written k (list es) f = ap around (sizes-written k es f)
  size-written k (operation o es) f =
      rw (is_fractional-operator_name o) (ap (λ s. around (around s)) (sizes-written k es (right (takes o (expression_count es)) _ f)) ∙ sym (applied-size (operator_name o) (all_written (all_without_literals es))))
  size-written k (fractional n b bs) f =
      let inside = right (n == k) _ f in
      fractional-size n b bs _
      (places-written (suc k) b (buckets_written bs) (buckets_written (computed_buckets bs)) (left (by_is_formed (suc k) b) _ inside)
      (buckets-written (suc k + sites_in_by b) bs (right (by_is_formed (suc k) b) _ inside)))
      ∙ sym (applied-size (codes "fractional") (by_written (by_without_literals b) (buckets_written (computed_buckets bs))))

  sizes-written : (k : ℕ) (es : Expressions) → are_formed k es ≡ true → expressions_size (all_written es) ≡ items_size (all_written (all_without_literals es))
  sizes-written k no_expressions f = refl
  sizes-written k (expression e es) f = ap₂ beside (size-written k e (left (is_formed k e) _ f)) (sizes-written (k + sites e) es (right (is_formed k e) _ f))

  places-written : (k : ℕ) (b : By) (rest kept : Items) → by_is_formed k b ≡ true → buckets_size rest ≡ items_size kept
      → buckets_size (by_written b rest) ≡ items_size (by_written (by_without_literals b) kept)
  places-written k no_by rest kept f g = g
  places-written k (by e) rest kept f g =
      buckets_size-other (written e) rest (written-no_list k e (left (not (is_list e)) _ f) (right (not (is_list e)) _ f))
      ∙ ap₂ beside (size-written k e (right (not (is_list e)) _ f)) g

  buckets-written : (k : ℕ) (bs : Buckets) → buckets_are_formed k bs ≡ true → buckets_size (buckets_written bs) ≡ items_size (buckets_written (computed_buckets bs))
  buckets-written k no_buckets f = refl
  buckets-written k (bucket (literal_bucket name weight) bs) f =
      rw (left (nat_lt weight (2 ^ 31)) _ f) (nothing-beside _ ∙ buckets-written (k + sites_in_bucket (literal_bucket name weight)) bs (right (nat_lt weight (2 ^ 31)) _ f))
  buckets-written k (bucket (computed_bucket name weight) bs) f =
      let here = left (bucket_is_formed k (computed_bucket name weight)) _ f in
      let parts = right (not (are_literals name weight)) _ here in
      rw (entry_of-computed name weight (not-true _ (left (not (are_literals name weight)) _ here)))
      (ap₂ beside
      (ap₂ (λ x y. around (beside x (beside y nothing))) (size-written k name (left (is_formed k name) _ parts)) (size-written (k + sites name) weight (right (is_formed k name) _ parts)))
      (buckets-written (k + sites_in_bucket (computed_bucket name weight)) bs (right (bucket_is_formed k (computed_bucket name weight)) _ f)))
