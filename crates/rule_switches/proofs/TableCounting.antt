-- Runs, one behind the other.
use Rattle.std.proofs.Common.{◌≡◌, ℕ, ◌+◌, List, [], ◌∷◌, ◌++◌, refl, subst, sym}
use Rattle.bucket_core.specs.Rule.{Entries}
use Rattle.rule_switches.specs.Runs.{Run, AreRuns, IsRunAt}

-- one run more
pub runs_more : (old new : Entries) (counts : List ℕ) (p m : ℕ) (rs : List Run) (r : Run) → AreRuns old new counts p rs m → IsRunAt old new counts m r → AreRuns old new counts p (rs ++ r ∷ []) (m + r.points)
runs_more old new counts p m [] r are is = (subst (λ n. IsRunAt old new counts n r) (sym are) is, subst (λ n. n + r.points ≡ m + r.points) (sym are) refl)
runs_more old new counts p m (x ∷ rs) r are is = (are.0, runs_more old new counts (p + x.points) m rs r are.1 is)
