-- What the laws of duality say (linear programming; Ahuja, Magnanti, Orlin, Network Flows, section 9.4) and of deficient sets
-- (Hall's condition; Hoffman's circulation theorem).
use Rattle.std.specs.Prelude.{◌≡◌, ◌<◌, ◌≤◌, ℕ, ℤ, List}
use Rattle.exposures.specs.Counts.{counts_of}
use Rattle.bucket_core.specs.Rule.{Entries, total_weight}
use Rattle.price_core.specs.Cost.{cost_of, tally_cost}
use Rattle.price_core.specs.Limits.{Limits, AreLimits}
use Rattle.price_core.specs.Pricing.{Pricing}
use Rattle.transport_core.specs.Deficient.{IsDeficient}
use Rattle.transport_core.specs.Dual.{IsDual}
use Rattle.transport_core.specs.Fits.{Fits, IsLeast}
use Rattle.transport_core.specs.declared.certificate.CutKind.{CutKind}

-- Weak duality: no rule that fits costs less than dual prices prove.
abbrev pub DualsBound : Type 0
DualsBound =
    (old other : Entries) (limits : Limits) (pricing : Pricing) (inputs : List (List ℕ)) (alpha : ℕ → ℤ) (beta : List ℕ → ℤ) (cost : ℕ)
    → 0 < total_weight old → AreLimits limits → Fits old other limits pricing → IsDual old limits pricing inputs alpha beta cost
    → cost ≤ cost_of old other inputs pricing

-- A rule that fits and costs just what dual prices prove costs the least.
abbrev pub DualsProveLeast : Type 0
DualsProveLeast =
    (old new : Entries) (limits : Limits) (pricing : Pricing) (inputs : List (List ℕ)) (alpha : ℕ → ℤ) (beta : List ℕ → ℤ)
    → 0 < total_weight old → AreLimits limits → Fits old new limits pricing
    → IsDual old limits pricing inputs alpha beta (cost_of old new inputs pricing) → IsLeast old new limits pricing inputs

-- No rule fits where a set of names is deficient.
abbrev pub DeficientFitsNone : Type 0
DeficientFitsNone =
    (kind : CutKind) (old rule : Entries) (limits : Limits) (pricing : Pricing) (names : List (List ℕ))
    → AreLimits limits → IsDeficient kind old limits pricing names → Fits old rule limits pricing → ⊥

-- The cost over how many inputs fall on each point is the cost over the inputs.
abbrev pub TalliesCost : Type 0
TalliesCost =
    (old new : Entries) (pricing : Pricing) (inputs : List (List ℕ)) → 0 < total_weight old → total_weight new ≡ total_weight old
    → tally_cost old new (counts_of inputs (total_weight old)) pricing ≡ cost_of old new inputs pricing
