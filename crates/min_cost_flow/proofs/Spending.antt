-- What the passes spend: the names are less above their high limits after each augmentation, and a search comes before each.
use Rattle.std.proofs.Common.{◌≡◌, ℕ, zero, suc, ◌+◌, ◌-◌, ◌*◌, ◌<◌, ◌≤◌, ⊎_elim, ℤ, get_or, length, refl, sym, ap, arith}
use Rattle.std.proofs.lemmas.Bool.{cases_eq}
use Rattle.min_cost_flow.specs.Paths.{IsAugmented}
use Rattle.min_cost_flow.specs.Problem.{IsFlowProblem, group_at, names_of, sum_to}
use Rattle.min_cost_flow.specs.declared.problem.FlowProblem.{FlowProblem}
use Rattle.min_cost_flow.specs.Flow.{IsFlow, placed_at, total_at}
use Rattle.min_cost_flow.specs.declared.flow.Flow.{Flow}
use Rattle.min_cost_flow.proofs.Sums.{sum_adds, sum_at_most, sum_one, sum_same}
use Rattle.min_cost_flow.specs.Spent.{HasSettledAtMost, Spent}
use Rattle.min_cost_flow.specs.Effort.{Searches, points_of}
use Rattle.min_cost_flow.specs.Meeting.{deficit}
use Rattle.min_cost_flow.specs.Placing.{excess}

-- ---- searches and augmentations

module _ (n : ℕ) where
  pub searches_none : (spent : Spent) → Searches n 0 spent spent
  searches_none spent = record { augmentations = omega arith; settlings = omega arith }

  -- a search that no augmentation follows
  pub searches_last : (old mid new : Spent) → Searches n 0 old mid → HasSettledAtMost n mid new → Searches n 1 old new
  searches_last old mid new before search = record {
    augmentations = omega (arith, before.augmentations, search.augmentations);
    settlings = omega (arith, before.settlings, search.settlings, ap (λ a. n * a) search.augmentations);
  }

  -- one that is followed by an augmentation
  pub searches_then : (old mid found new : Spent) → Searches n 0 old mid → HasSettledAtMost n mid found → new.augmentations ≡ found.augmentations + 1 → new.settlings ≡ found.settlings → Searches n 0 old new
  searches_then old mid found new before search more same = record {
    augmentations = omega (arith, before.augmentations, search.augmentations, more);
    settlings = omega (arith, before.settlings, search.settlings, same, ap (λ a. n * a) search.augmentations, ap (λ a. n * a) more);
  }

  -- one after which memory ran out
  pub searches_short : (old mid found new : Spent) → Searches n 0 old mid → HasSettledAtMost n mid found → new.augmentations ≡ found.augmentations → new.settlings ≡ found.settlings → Searches n 1 old new
  searches_short old mid found new before search kept same = record {
    augmentations = omega (arith, before.augmentations, search.augmentations, kept);
    settlings = omega (arith, before.settlings, search.settlings, same, ap (λ a. n * a) search.augmentations, ap (λ a. n * a) kept);
  }

  pub searches_more : (more : ℕ) (old mid new : Spent) → Searches n 0 old mid → Searches n more mid new → Searches n more old new
  searches_more more old mid new before after = record { augmentations = omega (arith, before.augmentations, after.augmentations); settlings = omega (arith, before.settlings, after.settlings) }

  pub searches_one : (old new : Spent) → Searches n 0 old new → Searches n 1 old new
  searches_one old new h = record { augmentations = h.augmentations; settlings = omega (arith, h.settlings) }

-- ---- points above the high limits

module _ (p : FlowProblem) (old new : Flow) (potential : ℕ → ℤ) (rank : ℕ → ℕ) (source last : ℕ) (aug : IsAugmented p old new potential rank p.high.items source last) where
  same_excess : (v : ℕ) → v < names_of p → (v ≡ aug.first → ⊥) → (total_at new v - get_or p.high.items v 0) ≡ (total_at old v - get_or p.high.items v 0)
  same_excess v v_in not_first =
      ⊎_elim
      (λ (is : v ≡ last). omega (arith, aug.below, aug.entered, ap (total_at new) is, ap (total_at old) is, ap (λ x. get_or p.high.items x 0) is))
      (λ (not_last : v ≡ last → ⊥). ap (λ t. t - get_or p.high.items v 0) (aug.others v not_first not_last))
      (cases_eq v last)

  pub less_excess : excess p new < excess p old
  less_excess =
      omega (
        arith,
        sum_one (names_of p) (λ v. total_at old v - get_or p.high.items v 0) (λ v. total_at new v - get_or p.high.items v 0) aug.first aug.begins same_excess,
        aug.left,
        aug.some,
        aug.above,
      )

-- ---- at most all points

sum_none : (n : ℕ) → sum_to n (λ _. 0) ≡ 0
sum_none zero = refl
sum_none (suc n) = omega (arith, sum_none n)

sum_turned : (n m : ℕ) (f : ℕ → ℕ → ℕ) → sum_to n (λ v. sum_to m (λ g. f g v)) ≡ sum_to m (λ g. sum_to n (f g))
sum_turned zero m f = sym (sum_none m)
sum_turned (suc n) m f = omega (arith, sum_turned n m f, sum_adds m (λ g. sum_to n (f g)) (λ g. f g n))

module _ (p : FlowProblem) (f : Flow) (flow : IsFlow p f) where
  all_points : sum_to (names_of p) (total_at f) ≡ points_of p
  all_points =
      omega (
        arith,
        sum_same (names_of p) (total_at f) (λ v. sum_to (length p.groups.items) (λ g. placed_at p f g v)) flow.tables.columns,
        sum_turned (names_of p) (length p.groups.items) (placed_at p f),
        sum_same (length p.groups.items) (λ g. sum_to (names_of p) (placed_at p f g)) (λ g. (group_at p.groups.items g).points) flow.tables.spent,
      )

  pub excess_few : excess p f ≤ points_of p
  excess_few = omega (arith, sum_at_most (names_of p) (λ v. total_at f v - get_or p.high.items v 0) (total_at f) (λ v v_in. omega arith), all_points)

pub deficit_few : (p : FlowProblem) (f : Flow) → IsFlowProblem p → deficit p f ≤ points_of p
deficit_few p f ok = omega (arith, sum_at_most (names_of p) (λ v. get_or p.low.items v 0 - total_at f v) (λ v. get_or p.low.items v 0) (λ v v_in. omega arith), ok.asked)
