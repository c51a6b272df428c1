-- The cumulative weights of buckets, one after another. It serves private contracts alone: the public ones are about `ends_of`.
use Rattle.std.specs.Prelude.{ℕ, ◌+◌, ◌^◌, nat_lt, List, [], ◌∷◌, ◌++◌, if◌then◌else◌, Option, Some, None, option_map, option_and_then}
use Rattle.logic_ast.specs.Expression.{Buckets, no_buckets, bucket, Bucket, literal_bucket, computed_bucket}

-- the sum with a literal bucket's weight, where it is less than 2^31
abbrev pub next_end : ℕ → Bucket → Option ℕ
next_end end (literal_bucket name weight) = if nat_lt (end + weight) (2 ^ 31) then Some (end + weight) else None
next_end end (computed_bucket name weight) = None

-- those of buckets after such a sum, where all have one
abbrev pub ends_after : ℕ → Buckets → Option (List ℕ)
ends_after end no_buckets = Some []
ends_after end (bucket b bs) = option_and_then (λ next. option_map (λ ends. next ∷ ends) (ends_after next bs)) (next_end end b)

-- with those before, where all have one
abbrev pub after_ends : List ℕ → Option (List ℕ) → List ℕ
after_ends before None = []
after_ends before (Some ends) = before ++ ends
