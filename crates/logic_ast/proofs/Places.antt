-- A site that is found by its number, and where it stands.
use Rattle.std.proofs.Common.{◌≡◌, ℕ, Bool, true, false, ◌==◌, cond, List, [], ◌∷◌, ◌++◌, Option, Some, None, option_map, eq-eqb, refl, sym, ap, ◌∙◌, arith}
use Rattle.std.specs.List.{find}
use Rattle.std.proofs.lemmas.Grind.{common_steps}
use Rattle.logic_ast.specs.Expression.{Expression, literal, list, operation, fractional, Expressions, no_expressions, expression, By, no_by, by, Buckets, no_buckets, bucket, Bucket, literal_bucket, computed_bucket}
use Rattle.logic_ast.specs.Formed.{is_formed}
use Rattle.logic_ast.specs.Found.{or_else, found, found_in, found_in_by, found_in_buckets, found_in_bucket}
use Rattle.logic_ast.specs.Parts.{site_parts}
use Rattle.logic_ast.specs.Sites.{Site, preorder, preorder_in, preorder_in_by, preorder_in_buckets, preorder_in_bucket, site_at}
use Rattle.logic_ast.proofs.Numbered.{numbered-preorder, find-numbered}

at_number : ℕ → List Site → Option Site
at_number n = find (λ s. s.number == n)

pick-append : (b : Bool) (s : Site) (x y : Option Site) → or_else (cond b (Some s) x) y ≡ cond b (Some s) (or_else x y)
pick-append true s x y = refl
pick-append false s x y = refl

find-append : (n : ℕ) (xs ys : List Site) → at_number n (xs ++ ys) ≡ or_else (at_number n xs) (at_number n ys)
unfolding at_number
find-append n [] ys = refl
find-append n (x ∷ xs) ys = ap (cond (x.number == n) (Some x)) (find-append n xs ys) ∙ sym (pick-append (x.number == n) x (at_number n xs) (at_number n ys))

mutual
  unfolding at_number

  found-find : (n : ℕ) (e : Expression) → found n e ≡ at_number n (preorder e)
  found-find n (literal t) = refl
  found-find n (list es) = found_in-find n es
  found-find n (operation o es) = found_in-find n es
  found-find n (fractional m b bs) =
      ap (cond (m == n) (Some (record { number = m; bucketing = b; buckets = bs })))
      (rw (found_in_by-find n b, found_in_buckets-find n bs) (sym (find-append n (preorder_in_by b) (preorder_in_buckets bs))))

  found_in-find : (n : ℕ) (es : Expressions) → found_in n es ≡ at_number n (preorder_in es)
  found_in-find n no_expressions = refl
  found_in-find n (expression e es) = rw (found-find n e, found_in-find n es) (sym (find-append n (preorder e) (preorder_in es)))

  found_in_by-find : (n : ℕ) (b : By) → found_in_by n b ≡ at_number n (preorder_in_by b)
  found_in_by-find n no_by = refl
  found_in_by-find n (by e) = found-find n e

  found_in_buckets-find : (n : ℕ) (bs : Buckets) → found_in_buckets n bs ≡ at_number n (preorder_in_buckets bs)
  found_in_buckets-find n no_buckets = refl
  found_in_buckets-find n (bucket b bs) = rw (found_in_bucket-find n b, found_in_buckets-find n bs) (sym (find-append n (preorder_in_bucket b) (preorder_in_buckets bs)))

  found_in_bucket-find : (n : ℕ) (b : Bucket) → found_in_bucket n b ≡ at_number n (preorder_in_bucket b)
  found_in_bucket-find n (literal_bucket name weight) = refl
  found_in_bucket-find n (computed_bucket name weight) = rw (found-find n name, found-find n weight) (sym (find-append n (preorder name) (preorder weight)))

-- the site of a number is the one at that place in preorder
pub found-at : (n : ℕ) (e : Expression) → is_formed 0 e ≡ true → found n e ≡ site_at n e
unfolding at_number
found-at n e h = found-find n e ∙ find-numbered 0 n n (preorder e) (numbered-preorder 0 e h) (omega arith)

pub found-here : (n m : ℕ) (b : By) (bs : Buckets) → m ≡ n → option_map site_parts (found n (fractional m b bs)) ≡ Some (b, bs)
found-here n m b bs e = rw (eq-eqb m n e) refl

differs : (m n : ℕ) → (m ≡ n → ⊥) → (m == n) ≡ false
differs m n h = grind (arith, common_steps, h)

later : (x y : Option Site) → option_map site_parts x ≡ None → option_map site_parts (or_else x y) ≡ option_map site_parts y
later None y h = refl
later (Some s) y h = cc

pub found-later : (n m : ℕ) (b : By) (bs : Buckets) → (m ≡ n → ⊥) → option_map site_parts (found_in_by n b) ≡ None → option_map site_parts (found n (fractional m b bs)) ≡ option_map site_parts (found_in_buckets n bs)
found-later n m b bs e h = rw (differs m n e) (later (found_in_by n b) (found_in_buckets n bs) h)
