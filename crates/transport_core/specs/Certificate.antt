-- A certificate: dual prices by group and by name, and the cost that they prove.
use Rattle.std.specs.Prelude.{◌≡◌, ℕ, ℤ, pos, ◌+ℤ◌, ◌*ℤ◌, List, [], ◌∷◌, map, unwrap_or, String, string_bytes}
use Rattle.std.specs.Int.{int_max, int_min}
use Rattle.std.specs.Map.{keys_of, lookup}
use Rattle.std.specs.Str.{bytes_eq}
use Rattle.std.specs.declared.alloc.Global.{Global}
use Rattle.bucket_core.specs.Rule.{Entries}
use Rattle.price_core.specs.Cost.{cost_of}
use Rattle.price_core.specs.Limits.{Limits}
use Rattle.price_core.specs.Pricing.{Pricing}
use Rattle.transport_core.specs.Dual.{IsDual}
use Rattle.transport_core.specs.Fits.{Fits}
use Rattle.transport_core.specs.Groups.{GroupKey, is_same_group, group_at, AreGroups}
use Rattle.transport_core.specs.declared.certificate.Certificate.{Certificate}

-- the numbers of a certificate, without where its names lie in memory
pub record DualPrices : Type 0 where
  pub alpha : List (GroupKey × ℤ)
  pub beta : List (List ℕ × ℤ)
  pub cost : ℕ

abbrev pub alpha_row : String Global × ℕ × ℤ → GroupKey × ℤ
alpha_row r = ((string_bytes r.0, r.1), r.2)

abbrev pub alpha_view : List (String Global × ℕ × ℤ) → List (GroupKey × ℤ)
alpha_view rows = map alpha_row rows

abbrev pub beta_row : String Global × ℤ → List ℕ × ℤ
beta_row r = (string_bytes r.0, r.1)

abbrev pub beta_view : List (String Global × ℤ) → List (List ℕ × ℤ)
beta_view rows = map beta_row rows

abbrev pub certificate_view : Certificate → DualPrices
certificate_view c = record { alpha = alpha_view c.alpha.items; beta = beta_view c.beta.items; cost = c.cost }

-- the number of a point is that of its group
abbrev pub alpha_at : Entries → List (List ℕ) → List (GroupKey × ℤ) → ℕ → ℤ
alpha_at old inputs alpha p = unwrap_or (lookup (is_same_group (group_at old inputs p)) alpha) (pos 0)

abbrev pub beta_of : List (List ℕ × ℤ) → List ℕ → ℤ
beta_of beta name = unwrap_or (lookup (bytes_eq name) beta) (pos 0)

-- The new rule fits, and the certificate's numbers, one for each group and one for each name, prove its cost.
pub record IsCertified (old new : Entries) (limits : Limits) (pricing : Pricing) (inputs : List (List ℕ)) (c : DualPrices) : Type 0 where
  pub fits : Fits old new limits pricing
  pub groups : AreGroups old inputs (keys_of c.alpha)
  pub names : keys_of c.beta ≡ keys_of limits
  pub dual : IsDual old limits pricing inputs (alpha_at old inputs c.alpha) (beta_of c.beta) c.cost
  pub cost : cost_of old new inputs pricing ≡ c.cost

-- the sum of a list of numbers, each with its weight
abbrev pub weighted : List ℕ → List ℤ → ℤ
weighted [] values = pos 0
weighted (w ∷ ws) [] = pos 0
weighted (w ∷ ws) (z ∷ zs) = (pos w *ℤ z) +ℤ weighted ws zs

-- the parts of what the names make at their limits: from numbers above 0 at the low limits, from those below at the high ones
abbrev pub gains : Limits → List (List ℕ × ℤ) → ℤ
gains limits beta = weighted (map (λ l. l.1.0) limits) (map (λ b. int_max b.1 (pos 0)) beta)

abbrev pub losses : Limits → List (List ℕ × ℤ) → ℤ
losses limits beta = weighted (map (λ l. l.1.1) limits) (map (λ b. int_min b.1 (pos 0)) beta)

-- the sum of alpha over the points, by groups
abbrev pub group_sum : List (GroupKey × ℕ) → List (GroupKey × ℤ) → ℤ
group_sum groups alpha = weighted (map (λ g. g.1) groups) (map (λ a. a.1) alpha)

-- The dual sum over the lists: the numbers of the groups at their points, and those of the names at their limits.
abbrev pub listed_sum : List (GroupKey × ℕ) → Limits → List (GroupKey × ℤ) → List (List ℕ × ℤ) → ℤ
listed_sum groups limits alpha beta = (group_sum groups alpha +ℤ gains limits beta) +ℤ losses limits beta
