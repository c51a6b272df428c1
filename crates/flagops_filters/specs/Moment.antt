-- By which a targeting reads the moment of its evaluation (flagd: `$flagd.timestamp`).
use Rattle.std.specs.Prelude.{ℕ, nat_eq, Bool, true, false, ◌||◌, List, codes, length}
use Rattle.std.specs.Str.{bytes_eq}
use Rattle.flag_text.specs.Shape.{Shape, null, text}
use Rattle.logic_ast.specs.Expression.{Expression, literal, list, operation, fractional, Expressions, no_expressions, expression, By, no_by, by, Buckets, no_buckets, bucket, Bucket, literal_bucket, computed_bucket}
use Rattle.logic_ast.specs.declared.operator.Operator.{Operator}
use Rattle.logic_ast.specs.declared.operator.Operator.TheVariants.{Var}

-- the moment itself, or what has it: `$flagd`, or the whole scope
abbrev pub finds_moment : List ℕ → Bool
finds_moment path = bytes_eq path (codes "$flagd.timestamp") || (bytes_eq path (codes "$flagd") || nat_eq (length path) 0)

abbrev pub is_moment_path : Shape → Bool
is_moment_path null = true
is_moment_path (text path) = finds_moment path
is_moment_path t = false

-- a path that is computed may be any
abbrev pub may_be_moment_path : Expression → Bool
may_be_moment_path (literal path) = is_moment_path path
may_be_moment_path e = true

-- no path is the whole scope
abbrev pub may_find_moment : Expressions → Bool
may_find_moment no_expressions = true
may_find_moment (expression path es) = may_be_moment_path path

-- `var` with such a path
abbrev pub is_moment_read : Operator → Expressions → Bool
is_moment_read Var es = may_find_moment es
is_moment_read o es = false

-- one stands in an expression
abbrev mutual
  pub reads_moment : Expression → Bool
  reads_moment (literal t) = false
  reads_moment (list es) = one_reads es
  reads_moment (operation o es) = is_moment_read o es || one_reads es
  reads_moment (fractional n b bs) = by_reads b || bucket_reads bs

  pub one_reads : Expressions → Bool
  one_reads no_expressions = false
  one_reads (expression e es) = reads_moment e || one_reads es

  pub by_reads : By → Bool
  by_reads no_by = false
  by_reads (by e) = reads_moment e

  pub bucket_reads : Buckets → Bool
  bucket_reads no_buckets = false
  bucket_reads (bucket b bs) = computed_reads b || bucket_reads bs

  pub computed_reads : Bucket → Bool
  computed_reads (literal_bucket name weight) = false
  computed_reads (computed_bucket name weight) = reads_moment name || reads_moment weight
