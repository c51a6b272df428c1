-- How many augmentations a planner has made, and how many nodes its searches have settled.
use Rattle.std.specs.Prelude.{◌≡◌, ℕ, ◌+◌, ◌≤◌}

pub record Spent : Type 0 where
  pub augmentations : ℕ
  pub settlings : ℕ

-- a search has settled just so many nodes
pub record HasSettled (nodes : ℕ) (old new : Spent) : Type 0 where
  pub augmentations : new.augmentations ≡ old.augmentations
  pub settlings : new.settlings ≡ old.settlings + nodes

-- a search has settled at most so many nodes
pub record HasSettledAtMost (nodes : ℕ) (old new : Spent) : Type 0 where
  pub augmentations : new.augmentations ≡ old.augmentations
  pub settlings : new.settlings ≤ old.settlings + nodes
