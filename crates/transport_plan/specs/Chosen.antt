-- Names that are chosen by their places.
use Rattle.std.specs.Prelude.{ℕ, suc, Bool, List, [], ◌∷◌, if◌then◌else◌}

abbrev pub chosen : List (List ℕ) → (ℕ → Bool) → List (List ℕ)
chosen [] mark = []
chosen (n ∷ names) mark = if mark 0 then n ∷ chosen names (λ v. mark (suc v)) else chosen names (λ v. mark (suc v))
