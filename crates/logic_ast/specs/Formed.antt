-- Which expressions there are: those that are read.
use Rattle.std.specs.Prelude.{ℕ, suc, ◌+◌, ◌^◌, Bool, true, false, not, ◌&&◌, ◌==◌, nat_lt}
use Rattle.std.specs.Option.{is_some}
use Rattle.bucket_core.specs.Reading.{bucket_with, weight_of}
use Rattle.flag_text.specs.Shape as shape
use Rattle.flag_text.specs.Shape.{Shape, object, no_members, member, is_whole}
use Rattle.logic_ast.specs.Size.{is_too_big}
use Rattle.logic_ast.specs.Expression.{Expression, literal, list, operation, fractional, Expressions, no_expressions, expression, By, no_by, by, Buckets, no_buckets, bucket, Bucket, literal_bucket, computed_bucket}
use Rattle.logic_ast.specs.Operator.{takes}
use Rattle.logic_ast.specs.Sites.{sites, sites_in_by, sites_in_bucket}
use Rattle.logic_ast.specs.Writing.{written}

-- a scalar, or an object of no member or of several
abbrev pub is_literal : Shape → Bool
is_literal (shape.list ts) = false
is_literal (object (member name t no_members)) = false
is_literal t = true

abbrev pub is_list : Expression → Bool
is_list (list es) = true
is_list e = false

abbrev pub expression_count : Expressions → ℕ
expression_count no_expressions = 0
expression_count (expression e es) = suc (expression_count es)

abbrev pub are_literals : Expression → Expression → Bool
are_literals (literal name) (literal weight) = is_some (bucket_with (weight_of weight) name)
are_literals name weight = false

-- Literals are whole, operators have as many arguments as they take, no bucketing expression is a list, only buckets that
-- are not literal are computed, and the sites are numbered in preorder from k.
abbrev mutual
  pub is_formed : ℕ → Expression → Bool
  is_formed k (literal t) = is_literal t && is_whole t
  is_formed k (list es) = are_formed k es
  is_formed k (operation o es) = takes o (expression_count es) && are_formed k es
  is_formed k (fractional n b bs) = n == k && (by_is_formed (suc k) b && buckets_are_formed (suc k + sites_in_by b) bs)

  pub are_formed : ℕ → Expressions → Bool
  are_formed k no_expressions = true
  are_formed k (expression e es) = is_formed k e && are_formed (k + sites e) es

  pub by_is_formed : ℕ → By → Bool
  by_is_formed k no_by = true
  by_is_formed k (by e) = not (is_list e) && is_formed k e

  pub buckets_are_formed : ℕ → Buckets → Bool
  buckets_are_formed k no_buckets = true
  buckets_are_formed k (bucket b bs) = bucket_is_formed k b && buckets_are_formed (k + sites_in_bucket b) bs

  pub bucket_is_formed : ℕ → Bucket → Bool
  bucket_is_formed k (literal_bucket name weight) = nat_lt weight (2 ^ 31)
  bucket_is_formed k (computed_bucket name weight) = not (are_literals name weight) && (is_formed k name && is_formed (k + sites name) weight)

-- an expression that is within the limits
abbrev pub is_well_formed : Expression → Bool
is_well_formed e = is_formed 0 e && not (is_too_big (written e))
