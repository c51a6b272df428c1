-- Weights that are none, and weights that are no rule together.
use Rattle.std.specs.Prelude.{ℕ, ◌+◌, ◌^◌, ◌==◌, nat_le, Bool, true, false, ◌||◌, ◌&&◌, is_none, Option, Some, None, unwrap_or}
use Rattle.std.specs.List.{list_any}
use Rattle.bucket_core.specs.Reading.{weight_of}
use Rattle.logic_ast.specs.Expression.{Expression, literal, Buckets, no_buckets, bucket, Bucket, literal_bucket, computed_bucket}
use Rattle.logic_ast.specs.Sites.{Site, preorder}

-- a literal that is no whole number from 0 to 2^31-1
abbrev pub is_no_weight : Expression → Bool
is_no_weight (literal t) = is_none (weight_of t)
is_no_weight e = false

-- the weight of a literal bucket is one
abbrev pub has_bad_weight : Buckets → Bool
has_bad_weight no_buckets = false
has_bad_weight (bucket (literal_bucket name weight) bs) = has_bad_weight bs
has_bad_weight (bucket (computed_bucket name weight) bs) = is_no_weight weight || has_bad_weight bs

-- the weight of a bucket, where it is literal
abbrev pub literal_weight : Bucket → Option ℕ
literal_weight (literal_bucket name weight) = Some weight
literal_weight (computed_bucket name (literal t)) = weight_of t
literal_weight (computed_bucket name e) = None

-- what the literal weights sum to
abbrev pub literal_total : Buckets → ℕ
literal_total no_buckets = 0
literal_total (bucket b bs) = unwrap_or (literal_weight b) 0 + literal_total bs

-- more than a rule may have, whatever the others are
abbrev pub are_too_heavy : Buckets → Bool
are_too_heavy bs = nat_le (2 ^ 31) (literal_total bs)

abbrev pub is_zero : Option ℕ → Bool
is_zero None = false
is_zero (Some n) = n == 0

-- each weight is the literal 0, so that no bucket has a point
abbrev pub are_weightless : Buckets → Bool
are_weightless no_buckets = true
are_weightless (bucket b bs) = is_zero (literal_weight b) && are_weightless bs

-- buckets that nobody falls into
abbrev pub weigh_badly : Buckets → Bool
weigh_badly bs = has_bad_weight bs || (are_too_heavy bs || are_weightless bs)

-- so are those of a `fractional`, wherever in the expression it stands
abbrev pub is_bad_site : Site → Bool
is_bad_site s = weigh_badly s.buckets

abbrev pub has_bad_site : Expression → Bool
has_bad_site e = list_any is_bad_site (preorder e)
