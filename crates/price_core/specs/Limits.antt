-- Limits on the totals of a rule's names.
use Rattle.std.specs.Prelude.{ℕ, ◌<◌, ◌≤◌, ◌^◌, List, map, unwrap_or, string_bytes}
use Rattle.std.specs.Cmp.Lexicographic.{slice_cmp}
use Rattle.std.specs.List.{All}
use Rattle.std.specs.List.Sorted.{IsStrictlySortedBy}
use Rattle.std.specs.Map.{keys_of, lookup}
use Rattle.std.specs.Ordering.{nat_cmp}
use Rattle.std.specs.Str.{bytes_eq}
use Rattle.price_core.specs.declared.totals.Limit.{Limit}

-- each name with the least and the greatest total that it may have
abbrev pub Limits : Type 0
Limits = List (List ℕ × (ℕ × ℕ))

-- the limits of a name, and 0 and 0 of every other text
abbrev pub limits_of : Limits → List ℕ → ℕ × ℕ
limits_of ls name = unwrap_or (lookup (bytes_eq name) ls) (0, 0)

-- the least total that a name may have
abbrev pub low_of : Limits → List ℕ → ℕ
low_of ls name = (limits_of ls name).0

-- the greatest total that a name may have
abbrev pub high_of : Limits → List ℕ → ℕ
high_of ls name = (limits_of ls name).1

-- Names rise strictly as bytes, no low limit is above its high one, and none above the largest total of a rule.
pub record AreLimits (ls : Limits) : Type 0 where
  pub rise : IsStrictlySortedBy (slice_cmp nat_cmp) (keys_of ls)
  pub ordered : All (λ l. l.1.0 ≤ l.1.1) ls
  pub small : All (λ l. l.1.1 < 2 ^ 31) ls

-- the limits of the program, without where the names lie in memory
abbrev pub limit_view : Limit → List ℕ × (ℕ × ℕ)
limit_view l = (string_bytes l.name, (l.low, l.high))

-- the same of a list of limits
abbrev pub limits_view : List Limit → Limits
limits_view ls = map limit_view ls
