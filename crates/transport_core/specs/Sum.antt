-- Sums of whole numbers, which may be negative.
use Rattle.std.specs.Prelude.{ℤ, pos, ◌+ℤ◌, List, [], ◌∷◌}

-- the sum of f over a list
abbrev pub sum_z : {X : Type 0} → (X → ℤ) → List X → ℤ
sum_z f [] = pos 0
sum_z f (x ∷ xs) = f x +ℤ sum_z f xs
