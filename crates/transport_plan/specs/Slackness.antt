-- Complementary slackness of a flow and the dual prices of groups and names (Ahuja, Magnanti, Orlin, Network Flows, section 9.4).
use Rattle.std.specs.Prelude.{◌≡◌, ℕ, ◌+◌, ◌*◌, ◌<◌, ◌≤◌, ℤ, pos, ◌+ℤ◌, ◌≤ℤ◌, false, true, List, [], ◌∷◌, length, take, drop, replicate}
use Rattle.std.specs.List.{slice_index_or, zip}
use Rattle.std.specs.Map.{keys_of}
use Rattle.price_core.specs.Limits.{Limits}
use Rattle.price_core.specs.Pricing.{Pricing, price_of, is_forbidden}
use Rattle.transport_core.specs.Assignment.{spends_all}
use Rattle.transport_core.specs.Certificate.{DualPrices}
use Rattle.transport_core.specs.Groups.{GroupKey}
use Rattle.transport_core.specs.Instance.{TransportProblem}

-- where a group gives a name points, their dual prices sum to what the change costs the inputs of a point
abbrev pub IsTightRow : Pricing → GroupKey → ℤ → List (List ℕ) → List ℕ → List ℤ → Type 0
IsTightRow pricing g alpha [] row beta = Unit {0}
IsTightRow pricing g alpha (n ∷ names) [] beta = Unit {0}
IsTightRow pricing g alpha (n ∷ names) (k ∷ row) [] = Unit {0}
IsTightRow pricing g alpha (n ∷ names) (k ∷ row) (b ∷ beta) = (0 < k → (alpha +ℤ b) ≡ pos (g.1 * price_of pricing g.0 n)) × IsTightRow pricing g alpha names row beta

-- the same of each group, where the numbers stand by group and then by name
abbrev pub AreTightRows : Pricing → List (GroupKey × ℕ) → List ℤ → List (List ℕ) → ℕ → List ℕ → List ℤ → Type 0
AreTightRows pricing [] alpha names width numbers beta = Unit {0}
AreTightRows pricing (g ∷ gs) [] names width numbers beta = Unit {0}
AreTightRows pricing (g ∷ gs) (a ∷ alpha) names width numbers beta =
    IsTightRow pricing g.0 a names (take width numbers) beta × AreTightRows pricing gs alpha names width (drop width numbers) beta

-- the sums of the columns
abbrev pub plus : List ℕ → List ℕ → List ℕ
plus [] ys = []
plus (x ∷ xs) [] = []
plus (x ∷ xs) (y ∷ ys) = (x + y) ∷ plus xs ys

abbrev pub columns : List (GroupKey × ℕ) → ℕ → List ℕ → List ℕ
columns [] width numbers = replicate width 0
columns (g ∷ gs) width numbers = plus (take width numbers) (columns gs width (drop width numbers))

-- each total is within its limits, a name below its high limit has no dual price below 0, and one above its low limit none above 0
abbrev pub AreBalanced : Limits → List ℕ → List ℤ → Type 0
AreBalanced [] totals beta = Unit {0}
AreBalanced (l ∷ ls) [] beta = Unit {0}
AreBalanced (l ∷ ls) (t ∷ totals) [] = Unit {0}
AreBalanced (l ∷ ls) (t ∷ totals) (b ∷ beta) =
    (l.1.0 ≤ t) × (t ≤ l.1.1) × (t < l.1.1 → pos 0 ≤ℤ b) × (l.1.0 < t → b ≤ℤ pos 0) × AreBalanced ls totals beta

-- what a change to the name at this place costs the inputs of a point of the group
abbrev pub charge : Pricing → GroupKey → List (List ℕ) → ℕ → ℤ
charge pricing g names v = pos (g.1 * price_of pricing g.0 (slice_index_or names v []))

-- the dual price of a group: the least that a change of one of its points costs, less the dual price of the new name
pub record IsLeastOffer (pricing : Pricing) (g : GroupKey) (names : List (List ℕ)) (beta : List ℤ) (alpha : ℤ) : Type 0 where
  pub slack : (w : ℕ) → w < length names → is_forbidden pricing g.0 (slice_index_or names w []) ≡ false → (alpha +ℤ slice_index_or beta w (pos 0)) ≤ℤ charge pricing g names w
  pub tight : (w : ℕ) × (w < length names) × (is_forbidden pricing g.0 (slice_index_or names w []) ≡ false) × ((alpha +ℤ slice_index_or beta w (pos 0)) ≡ charge pricing g names w)

-- no point of the group has made a forbidden change, and none has a cheaper place at the dual prices of the names
pub record IsOptimalRow (pricing : Pricing) (g : GroupKey) (names : List (List ℕ)) (row : List ℕ) (beta : List ℤ) : Type 0 where
  pub free : (v : ℕ) → v < length names → 0 < slice_index_or row v 0 → is_forbidden pricing g.0 (slice_index_or names v []) ≡ false
  pub cheapest : (v w : ℕ) → v < length names → w < length names → 0 < slice_index_or row v 0 → is_forbidden pricing g.0 (slice_index_or names w []) ≡ false
      → (charge pricing g names v +ℤ slice_index_or beta w (pos 0)) ≤ℤ (charge pricing g names w +ℤ slice_index_or beta v (pos 0))

abbrev pub AreOptimalRows : Pricing → List (GroupKey × ℕ) → List (List ℕ) → ℕ → List ℕ → List ℤ → Type 0
AreOptimalRows pricing [] names width numbers beta = Unit {0}
AreOptimalRows pricing (g ∷ gs) names width numbers beta =
    IsOptimalRow pricing g.0 names (take width numbers) beta × AreOptimalRows pricing gs names width (drop width numbers) beta

abbrev pub AreLeastOffers : Pricing → List (GroupKey × ℕ) → List (List ℕ) → List ℤ → List ℤ → Type 0
AreLeastOffers pricing [] names beta alpha = Unit {0}
AreLeastOffers pricing (g ∷ gs) names beta [] = Unit {0}
AreLeastOffers pricing (g ∷ gs) names beta (a ∷ alpha) = IsLeastOffer pricing g.0 names beta a × AreLeastOffers pricing gs names beta alpha

-- each point has a place, none a cheaper one at the dual prices of the names, and these are on the side of their limits
pub record IsOptimal (p : TransportProblem) (numbers : List ℕ) (beta : List ℤ) : Type 0 where
  pub spent : spends_all p.groups (length p.limits) numbers ≡ true
  pub rows : AreOptimalRows p.pricing p.groups (keys_of p.limits) (length p.limits) numbers beta
  pub priced : length beta ≡ length p.limits
  pub balance : AreBalanced p.limits (columns p.groups (length p.limits) numbers) beta

-- the certificate of these dual prices
abbrev pub certificate_of : TransportProblem → List ℤ → List ℤ → ℕ → DualPrices
certificate_of p alpha beta cost = record { alpha = zip (keys_of p.groups) alpha; beta = zip (keys_of p.limits) beta; cost = cost }
