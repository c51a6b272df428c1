-- What the passes spend.
use Rattle.std.specs.Prelude.{◌≡◌, ℕ, ◌+◌, ◌*◌, ◌≤◌, Bool, IfOk, IsTrue, length, MatchResult, Result}
use Rattle.min_cost_flow.specs.Problem.{group_at, names_of, sum_to}
use Rattle.min_cost_flow.specs.declared.problem.FlowProblem.{FlowProblem}
use Rattle.min_cost_flow.specs.Spent.{Spent}

-- the nodes: the names and the root
abbrev pub nodes_of : FlowProblem → ℕ
nodes_of p = names_of p + 1

-- the points of all groups
abbrev pub points_of : FlowProblem → ℕ
points_of p = sum_to (length p.groups.items) (λ g. (group_at p.groups.items g).points)

-- there are at most so many searches more than augmentations, and each settles each node at most once
pub record Searches (nodes more : ℕ) (old new : Spent) : Type 0 where
  pub augmentations : old.augmentations ≤ new.augmentations
  pub settlings : new.settlings + nodes * old.augmentations ≤ old.settlings + nodes * (new.augmentations + more)

-- A pass over the nodes makes at most so many augmentations, and where it ends at least the rest of them are left. Where it ends
-- well, there are no more searches than augmentations.
pub record Spends {E : Type 0} (nodes most rest : ℕ) (result : Result Bool E) (old new : Spent) : Type 0 where
  pub augmentations : new.augmentations ≤ old.augmentations + most
  pub left : IfOk result (λ _. new.augmentations + rest ≤ old.augmentations + most)
  pub searches : Searches nodes 1 old new
  pub found : IfOk result (λ done. IsTrue done → Searches nodes 0 old new)

-- one augmentation, or none where memory ran out
pub record Augments {X E : Type 0} (result : Result X E) (old new : Spent) : Type 0 where
  pub augmentations : MatchResult result (λ _. new.augmentations ≡ old.augmentations + 1) (λ _. new.augmentations ≡ old.augmentations)
  pub settlings : new.settlings ≡ old.settlings
