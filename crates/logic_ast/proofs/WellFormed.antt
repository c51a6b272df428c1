-- What is read is well formed, and what is written for a well formed expression is whole and reads as it.
use Rattle.std.proofs.Common.{◌≡◌, ℕ, suc, ◌+◌, ◌<◌, ◌≤◌, ◌^◌, pos, true, false, not, ◌==◌, nat_lt, None, Ok, refl, ap, ◌∙◌, subst, arith}
use Rattle.std.proofs.lemmas.Grind.{common_steps}
use Rattle.flag_text.specs.Shape.{Shape, whole, Items, is_whole, items_are_whole}
use Rattle.logic_ast.specs.Expression.{Expression, literal, list, operation, fractional, Expressions, no_expressions, expression, By, no_by, by, Buckets, no_buckets, bucket, Bucket, literal_bucket, computed_bucket}
use Rattle.logic_ast.specs.FirstFault.{expression_fault}
use Rattle.logic_ast.specs.Formed.{is_literal, is_list, expression_count, are_literals, is_formed, are_formed, by_is_formed, buckets_are_formed, bucket_is_formed, is_well_formed}
use Rattle.logic_ast.specs.Operator.{takes}
use Rattle.logic_ast.specs.Reading.{expression_from, reading}
use Rattle.logic_ast.specs.Sites.{sites, sites_in_by, sites_in_bucket}
use Rattle.logic_ast.specs.Size.{Size, is_over, is_too_big, expression_size, max_nodes}
use Rattle.logic_ast.specs.Writing.{written, all_written, by_written, buckets_written, bucket_written}
use Rattle.logic_ast.proofs.Formed.{is_formed-from}
use Rattle.logic_ast.proofs.Measured.{sites-few, size-from}
use Rattle.logic_ast.proofs.Written.{left, right, both, not-true, expression_from-written, expression_fault-written}

few-nodes : (s : Size) → is_over s ≡ false → s.nodes ≤ max_nodes
few-nodes s h = grind (arith, common_steps, h)

-- the numbers of the sites fit
pub numbers-fit : (t : Shape) → is_too_big t ≡ false → sites (expression_from 0 t) < 2 ^ 32
numbers-fit t h = omega (arith, sites-few 0 t, few-nodes (expression_size t) h)

pub is_well_formed-from : (t : Shape) → is_whole t ≡ true → is_too_big t ≡ false → expression_fault t ≡ None → is_well_formed (expression_from 0 t) ≡ true
is_well_formed-from t w big f =
    both (is_formed 0 (expression_from 0 t)) _ (is_formed-from 0 t f w) (ap (λ s. not (is_over s)) (size-from 0 t f) ∙ ap not big)

pub reading-written : (e : Expression) → is_well_formed e ≡ true → reading (written e) ≡ Ok e
reading-written e h =
    let formed = left (is_formed 0 e) _ h in
    rw (not-true _ (right (is_formed 0 e) _ h), expression_fault-written 0 e formed, expression_from-written 0 e formed) refl

pub sites-small : (e : Expression) → is_well_formed e ≡ true → sites e < 2 ^ 32
sites-small e h =
    let P : Expression → Type 0 = λ x. sites x < 2 ^ 32 in
    subst P (expression_from-written 0 e (left (is_formed 0 e) _ h)) (numbers-fit (written e) (not-true _ (right (is_formed 0 e) _ h)))

in_range : (n : ℕ) → nat_lt n (2 ^ 31) ≡ true → nat_lt n (2 ^ 53) ≡ true
in_range n h = grind (arith, common_steps, h)

mutual
  pub is_whole-written : (k : ℕ) (e : Expression) → is_formed k e ≡ true → is_whole (written e) ≡ true
  is_whole-written k (literal t) h = right (is_literal t) _ h
  is_whole-written k (list es) h = are_whole-written k es h
  is_whole-written k (operation o es) h = both (items_are_whole (all_written es)) true (are_whole-written k es (right (takes o (expression_count es)) _ h)) refl
  is_whole-written k (fractional n b bs) h =
      let rest = right (n == k) _ h in
      both (items_are_whole (by_written b (buckets_written bs))) true
      (by_is_whole-written (suc k) b (buckets_written bs) (left (by_is_formed (suc k) b) _ rest) (buckets_are_whole-written (suc k + sites_in_by b) bs (right (by_is_formed (suc k) b) _ rest))) refl

  are_whole-written : (k : ℕ) (es : Expressions) → are_formed k es ≡ true → items_are_whole (all_written es) ≡ true
  are_whole-written k no_expressions h = refl
  are_whole-written k (expression e es) h =
      both (is_whole (written e)) _ (is_whole-written k e (left (is_formed k e) _ h)) (are_whole-written (k + sites e) es (right (is_formed k e) _ h))

  by_is_whole-written : (k : ℕ) (b : By) (rest : Items) → by_is_formed k b ≡ true → items_are_whole rest ≡ true → items_are_whole (by_written b rest) ≡ true
  by_is_whole-written k no_by rest h r = r
  by_is_whole-written k (by e) rest h r = both (is_whole (written e)) _ (is_whole-written k e (right (not (is_list e)) _ h)) r

  buckets_are_whole-written : (k : ℕ) (bs : Buckets) → buckets_are_formed k bs ≡ true → items_are_whole (buckets_written bs) ≡ true
  buckets_are_whole-written k no_buckets h = refl
  buckets_are_whole-written k (bucket b bs) h =
      both (is_whole (bucket_written b)) _ (bucket_is_whole-written k b (left (bucket_is_formed k b) _ h)) (buckets_are_whole-written (k + sites_in_bucket b) bs (right (bucket_is_formed k b) _ h))

  bucket_is_whole-written : (k : ℕ) (b : Bucket) → bucket_is_formed k b ≡ true → is_whole (bucket_written b) ≡ true
  bucket_is_whole-written k (literal_bucket name weight) h = both (is_whole (whole (pos weight))) true (in_range weight h) refl
  bucket_is_whole-written k (computed_bucket name weight) h =
      let parts = right (not (are_literals name weight)) _ h in
      both (is_whole (written name)) _ (is_whole-written k name (left (is_formed k name) _ parts))
      (both (is_whole (written weight)) true (is_whole-written (k + sites name) weight (right (is_formed k name) _ parts)) refl)
