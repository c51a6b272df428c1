-- The site of a number, the first from the left: it is the one at that place in preorder where the numbers are the places.
-- It serves private contracts alone: the public ones are about `site_at`.
use Rattle.std.specs.Prelude.{ℕ, ◌==◌, if◌then◌else◌, Option, Some, None}
use Rattle.logic_ast.specs.Expression.{Expression, literal, list, operation, fractional, Expressions, no_expressions, expression, By, no_by, by, Buckets, no_buckets, bucket, Bucket, literal_bucket, computed_bucket}
use Rattle.logic_ast.specs.Sites.{Site}

abbrev pub or_else : Option Site → Option Site → Option Site
or_else (Some s) other = Some s
or_else None other = other

abbrev mutual
  pub found : ℕ → Expression → Option Site
  found n (literal t) = None
  found n (list es) = found_in n es
  found n (operation o es) = found_in n es
  found n (fractional m b bs) = if m == n then Some (record { number = m; bucketing = b; buckets = bs }) else or_else (found_in_by n b) (found_in_buckets n bs)

  pub found_in : ℕ → Expressions → Option Site
  found_in n no_expressions = None
  found_in n (expression e es) = or_else (found n e) (found_in n es)

  pub found_in_by : ℕ → By → Option Site
  found_in_by n no_by = None
  found_in_by n (by e) = found n e

  pub found_in_buckets : ℕ → Buckets → Option Site
  found_in_buckets n no_buckets = None
  found_in_buckets n (bucket b bs) = or_else (found_in_bucket n b) (found_in_buckets n bs)

  pub found_in_bucket : ℕ → Bucket → Option Site
  found_in_bucket n (literal_bucket name weight) = None
  found_in_bucket n (computed_bucket name weight) = or_else (found n name) (found n weight)
