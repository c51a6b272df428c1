-- Sets of names that show that no rule fits: cuts of the network (Hall's condition; Hoffman's circulation theorem).
use Rattle.std.specs.Prelude.{ℕ, ◌<◌, Bool, not, ◌||◌, List, count_by, sum_by, if◌then◌else◌}
use Rattle.std.specs.List.{All, Contains, list_any}
use Rattle.std.specs.Map.{keys_of}
use Rattle.std.specs.Str.{bytes_eq}
use Rattle.transport_core.specs.declared.certificate.CutKind.{CutKind}
use Rattle.transport_core.specs.declared.certificate.CutKind.TheVariants.{Over, Under}
use Rattle.bucket_core.specs.Rule.{Entries, points}
use Rattle.price_core.specs.Limits.{Limits}
use Rattle.price_core.specs.Pricing.{Pricing, is_forbidden}

-- whether a point of this name may keep it or change to the other
abbrev pub may_become : Pricing → List ℕ → List ℕ → Bool
may_become pricing from to = not (is_forbidden pricing from to)

abbrev pub is_among : List (List ℕ) → List ℕ → Bool
is_among names name = list_any (bytes_eq name) names

-- the points of these names outnumber the high limits of all that they may keep or change to
pub record IsOver (old : Entries) (limits : Limits) (pricing : Pricing) (names : List (List ℕ)) : Type 0 where
  pub listed : All (Contains (keys_of limits)) names
  pub more : sum_by (λ l. if list_any (λ from. may_become pricing from l.0) names then l.1.1 else 0) limits < count_by (is_among names) (points old)

-- the low limits of these names sum above the number of points that have or may take one of them
pub record IsUnder (old : Entries) (limits : Limits) (pricing : Pricing) (names : List (List ℕ)) : Type 0 where
  pub listed : All (Contains (keys_of limits)) names
  pub fewer : count_by (λ from. is_among names from || list_any (may_become pricing from) names) (points old)
      < sum_by (λ l. if is_among names l.0 then l.1.0 else 0) limits

-- the set is deficient by its kind
abbrev pub IsDeficient : CutKind → Entries → Limits → Pricing → List (List ℕ) → Type 0
IsDeficient Over old limits pricing names = IsOver old limits pricing names
IsDeficient Under old limits pricing names = IsUnder old limits pricing names

-- the same comparison, over the totals of the names
abbrev pub Outnumbers : CutKind → List (List ℕ × ℕ) → Limits → Pricing → List (List ℕ) → Type 0
Outnumbers Over totals limits pricing names =
    sum_by (λ l. if list_any (λ from. may_become pricing from l.0) names then l.1.1 else 0) limits < sum_by (λ r. if is_among names r.0 then r.1 else 0) totals
Outnumbers Under totals limits pricing names =
    sum_by (λ r. if is_among names r.0 || list_any (may_become pricing r.0) names then r.1 else 0) totals < sum_by (λ l. if is_among names l.0 then l.1.0 else 0) limits
