-- What is shown once operations were absorbed.
use Rattle.std.proofs.Common.{◌≡◌, ℕ, List, [], ◌∷◌, ◌++◌, ap, fold, length, refl, sym, ◌∙◌}
use Rattle.snap_share.specs.Shown.{TakesNumber}

module _ {X Operation : Type 0} (number : Operation → ℕ) (state : List X → ℕ) (applied : ℕ → Operation → ℕ) (takes : TakesNumber number state applied) where
  folded : (start : ℕ) (operations : List Operation) → fold applied start operations ≡ fold (λ before operation. number operation) start operations
  folded start [] = refl
  folded start (o ∷ os) = ap (λ (n : ℕ). fold applied n os) (takes.1 start o) ∙ folded (number o) os

  pub shown : (old new : List X) (operations : List Operation) → state new ≡ fold applied (state old) operations → length new ≡ fold (λ before operation. number operation) (length old) operations
  shown old new operations is =
      sym (takes.0 new) ∙ is ∙ ap (λ (n : ℕ). fold applied n operations) (takes.0 old) ∙ folded (length old) operations

-- the last of these gives the number
pub last_number : {Operation : Type 0} (number : Operation → ℕ) (start : ℕ) (operations : List Operation) (last : Operation) → fold (λ before operation. number operation) start (operations ++ last ∷ []) ≡ number last
last_number number start [] last = refl
last_number number start (o ∷ os) last = last_number number (number o) os last
