-- An expression without its literal buckets: what its size is counted of.
use Rattle.logic_ast.specs.Expression.{Expression, literal, list, operation, fractional, Expressions, no_expressions, expression, By, no_by, by, Buckets, no_buckets, bucket, literal_bucket, computed_bucket}

abbrev mutual
  pub without_literals : Expression → Expression
  without_literals (literal t) = literal t
  without_literals (list es) = list (all_without_literals es)
  without_literals (operation o es) = operation o (all_without_literals es)
  without_literals (fractional n b bs) = fractional n (by_without_literals b) (computed_buckets bs)

  pub all_without_literals : Expressions → Expressions
  all_without_literals no_expressions = no_expressions
  all_without_literals (expression e es) = expression (without_literals e) (all_without_literals es)

  pub by_without_literals : By → By
  by_without_literals no_by = no_by
  by_without_literals (by e) = by (without_literals e)

  -- the buckets that are computed
  pub computed_buckets : Buckets → Buckets
  computed_buckets no_buckets = no_buckets
  computed_buckets (bucket (literal_bucket name weight) bs) = computed_buckets bs
  computed_buckets (bucket (computed_bucket name weight) bs) = bucket (computed_bucket (without_literals name) (without_literals weight)) (computed_buckets bs)
