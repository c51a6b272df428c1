-- The count of a search is that of the nodes with a rank, and of the one that it found.
use Rattle.std.proofs.Common.{◌≡◌, ℕ, ◌+◌, cond, nat_le, nat_lt, count_by, List, [], ◌∷◌, length, Some, None, refl, arith, ◌≤◌, ◌∙◌}
use Rattle.std.proofs.lemmas.Bool.Decides.{nat_tests}
use Rattle.std.proofs.lemmas.List.Sums.{sum_by-cons}
use Rattle.min_cost_flow.specs.Spent.{Spent, HasSettled, HasSettledAtMost}
use Rattle.min_cost_flow.specs.Found.{settled_nodes}
use Rattle.min_cost_flow.specs.declared.node.NodeState.{NodeState}
use Rattle.min_cost_flow.proofs.Rounds.{unsettled}

pub settled_none : (spent : Spent) → HasSettled 0 spent spent
settled_none spent = record { augmentations = refl; settlings = omega arith }

pub settled_one : (count : ℕ) (first old new : Spent) → HasSettled count first old → new.augmentations ≡ old.augmentations → new.settlings ≡ old.settlings + 1 → HasSettled (count + 1) first new
settled_one count first old new before same more = record { augmentations = same ∙ before.augmentations; settlings = omega (arith, more, before.settlings) }

pub settled_within : (n m : ℕ) (old new : Spent) → n ≤ m → HasSettled n old new → HasSettledAtMost m old new
settled_within n m old new le h = record { augmentations = h.augmentations; settlings = omega (arith, le, h.settlings) }

one_of_both : (nodes r : ℕ) → ◌≡◌ {A = ℕ} (cond (nat_lt r nodes) 1 0 + cond (nat_le nodes r) 1 0) 1
one_of_both nodes r = grind (arith, nat_tests)

ranked : (count : ℕ) (nodes : List NodeState) → count_by (λ s. nat_lt s.settle_order count) nodes + unsettled count nodes ≡ length nodes
ranked count [] = refl
ranked count (s ∷ nodes) =
    omega (arith, sum_by-cons (λ (t : NodeState). cond (nat_lt t.settle_order count) 1 0) s nodes, sum_by-cons (λ (t : NodeState). cond (nat_le count t.settle_order) 1 0) s nodes, one_of_both count s.settle_order, ranked count nodes)

module _ (X : Type 0) (count settled : ℕ) (nodes : List NodeState) (many : length nodes ≡ count) (left : settled + unsettled count nodes ≡ count) (old new : Spent) where
  pub settled_all : HasSettled settled old new → HasSettled (settled_nodes {X = X} count nodes None) old new
  settled_all h = record { augmentations = h.augmentations; settlings = omega (arith, h.settlings, ranked count nodes, many, left) }

  pub settled_found : (found : X) → HasSettled (settled + 1) old new → HasSettled (settled_nodes count nodes (Some found)) old new
  settled_found found h = record { augmentations = h.augmentations; settlings = omega (arith, h.settlings, ranked count nodes, many, left) }
