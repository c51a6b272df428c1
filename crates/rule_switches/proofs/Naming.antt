-- The name that a rule has from a point on.
use Rattle.std.proofs.Common.{◌≡◌, ◌<◌, ◌≤◌, ◌∙◌, ℕ, List, [], Some, ap, arith, unwrap_or}
use Rattle.std.proofs.lemmas.Option.{slice_get_past}
use Rattle.bucket_core.specs.Rule.{Entries, IsRun, at, points, total_weight}
use Rattle.price_core.specs.Cost.{name_at}
use Rattle.transport_core.proofs.Points.{length-points}

pub same_name : (r : Entries) (p end : ℕ) (n : List ℕ) → at r p ≡ Some n → IsRun r p end → (q : ℕ) → p ≤ q → q < end → name_at r q ≡ n
same_name r p end n is run q low high = ap (λ o. unwrap_or o []) (run q low high ∙ is)

-- there is none past its points
pub no_name : (r : Entries) (p : ℕ) → total_weight r ≤ p → (q : ℕ) → p ≤ q → name_at r q ≡ []
no_name r p past q low = ap (λ o. unwrap_or o []) (slice_get_past (points r) q (omega (arith, length-points r, past, low)))
