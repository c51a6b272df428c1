-- The status of a service that has ended.
use Rattle.std.proofs.Common.{◌≡◌, ◌⊎◌, ◌&&◌, ℕ, Bool, true, false, List, Option, if◌then◌else◌, inl, inr, refl, subst, sym}
use Rattle.flagops_streams.specs.Report.{Writes}

module _ (old new : Option (List ℕ)) (text : List ℕ) where
  -- where the line is there the status may be 1, and where it is not it is
  failed : (broken : Bool) (status : ℕ) → Writes old new broken status text 0 → Writes old new broken 1 text 1
  failed true status w = (w.0, refl)
  failed false status w = (w.0, refl)

  -- the status of the line only where it may be stopped, and was
  pub ended : (broken : Bool) (status given : ℕ) (may was : Bool) → given ≡ (if may && was then status else 1) → Writes old new broken status text 0
      → Writes old new broken given text 1 ⊎ ((may ≡ true) × Writes old new broken given text 0)
  ended broken status given true true is w = inr (refl, subst (λ (s : ℕ). Writes old new broken s text 0) (sym is) w)
  ended broken status given true false is w = inl (subst (λ (s : ℕ). Writes old new broken s text 1) (sym is) (failed broken status w))
  ended broken status given false was is w = inl (subst (λ (s : ℕ). Writes old new broken s text 1) (sym is) (failed broken status w))
