-- Points that moved from one name to another: rows sum to what they did, and totals are still the sums of columns.
use Rattle.std.proofs.Common.{◌≡◌, ◌≢◌, ℕ, ◌+◌, ◌*◌, ◌<◌, ◌≤◌, ◌^◌, ◌⊎◌, inl, inr, ⊎_elim, true, List, get_or, Option, refl, sym, ap, ◌∙◌, arith}
use Rattle.std.proofs.lemmas.Bool.{cases_eq}
use Rattle.std.proofs.lemmas.Nat.{same_from_place}
use Rattle.min_cost_flow.specs.Problem.{IsFlowProblem, sum_to, group_at, may_take, names_of}
use Rattle.min_cost_flow.specs.declared.problem.FlowProblem.{FlowProblem}
use Rattle.min_cost_flow.specs.Flow.{IsFlowAt, IsMoveAt, IsMoved, IsPushedAt, cell_at, groups_of}
use Rattle.min_cost_flow.proofs.Sums.{sum_same, sum_at_most, sum_has, sum_has_two, sum_adds, sum_one, sum_two}
use Rattle.min_cost_flow.specs.declared.arc.Arc.{Arc}

module _ (p : FlowProblem) (ok : IsFlowProblem p) (numbers sums : List ℕ) (cells : List (Option Arc)) (flow : IsFlowAt p numbers sums cells) where
  -- no group has more points than there are
  pub few_points : (g : ℕ) → g < groups_of p → (group_at p.groups.items g).points ≤ 1000000
  few_points g g_in = omega (arith, sum_has (groups_of p) (λ h. (group_at p.groups.items h).points) g g_in, ok.groups.weight)

  module _ (group from to points : ℕ) (move : IsMoveAt p numbers group from to points) where
    pub cell_small : cell_at numbers (names_of p) group to + points < 2 ^ 32
    cell_small = omega (arith, move.enough, sum_has_two (names_of p) (cell_at numbers (names_of p) group) from to move.from_in move.to_in move.apart, flow.spent group move.group_in, few_points group move.group_in)

    pub sum_enough : points ≤ get_or sums from 0
    sum_enough = omega (arith, move.enough, flow.columns from move.from_in, sum_has (groups_of p) (λ g. cell_at numbers (names_of p) g from) group move.group_in)

    pub sum_small : get_or sums to 0 + points < 2 ^ 32
    sum_small =
        let both : sum_to (groups_of p) (λ g. cell_at numbers (names_of p) g from + cell_at numbers (names_of p) g to) ≤ sum_to (groups_of p) (λ g. (group_at p.groups.items g).points) =
        sum_at_most (groups_of p) (λ g. cell_at numbers (names_of p) g from + cell_at numbers (names_of p) g to) (λ g. (group_at p.groups.items g).points)
        (λ g g_in. omega (arith, sum_has_two (names_of p) (cell_at numbers (names_of p) g) from to move.from_in move.to_in move.apart, flow.spent g g_in)) in
        omega (arith, both, sum_adds (groups_of p) (λ g. cell_at numbers (names_of p) g from) (λ g. cell_at numbers (names_of p) g to), sum_enough, flow.columns from move.from_in, flow.columns to move.to_in, ok.groups.weight)

    module _ (numbers' sums' : List ℕ) (cells_moved : IsMoved numbers numbers' (group * names_of p + from) (group * names_of p + to) points) (totals_moved : IsMoved sums sums' from to points) where
      pub cell_stays : (g v : ℕ) → v < names_of p → (g ≡ group → v ≡ from → ⊥) → (g ≡ group → v ≡ to → ⊥) → cell_at numbers' (names_of p) g v ≡ cell_at numbers (names_of p) g v
      cell_stays g v v_in not_from not_to =
          cells_moved.others (g * names_of p + v)
          (λ is. let s = same_from_place g v group from (names_of p) v_in move.from_in is in not_from s.0 s.1)
          (λ is. let s = same_from_place g v group to (names_of p) v_in move.to_in is in not_to s.0 s.1)

      pub pushed : IsPushedAt p numbers sums numbers' sums' group from to points
      pushed = record {
        pushes = record {
          groups = refl;
          names = refl;
          allowed = λ g v. refl;
          cost = λ g v. refl;
          left = cells_moved.left;
          entered = cells_moved.entered;
          others = cell_stays;
        };
        totals = totals_moved;
      }

      pub spent_after : (g : ℕ) → g < groups_of p → sum_to (names_of p) (cell_at numbers' (names_of p) g) ≡ (group_at p.groups.items g).points
      spent_after g g_in =
          ⊎_elim
          (λ (is : g ≡ group).
          let two = sum_two (names_of p) (cell_at numbers (names_of p) group) (cell_at numbers' (names_of p) group) from to move.from_in move.to_in move.apart (λ v v_in not_from not_to. cell_stays group v v_in (λ s. not_from) (λ s. not_to)) in
          omega (arith, two, cells_moved.left, cells_moved.entered, flow.spent group move.group_in, ap (λ h. sum_to (names_of p) (cell_at numbers' (names_of p) h)) is, ap (λ h. (group_at p.groups.items h).points) is))
          (λ (not : g ≡ group → ⊥).
          sum_same (names_of p) (cell_at numbers' (names_of p) g) (cell_at numbers (names_of p) g) (λ v v_in. cell_stays g v v_in (λ s is. not s) (λ s is. not s)) ∙ flow.spent g g_in)
          (cases_eq g group)

      pub columns_after : (v : ℕ) → v < names_of p → get_or sums' v 0 ≡ sum_to (groups_of p) (λ g. cell_at numbers' (names_of p) g v)
      columns_after v v_in =
          ⊎_elim
          (λ (is : v ≡ from).
          let one = sum_one (groups_of p) (λ g. cell_at numbers (names_of p) g from) (λ g. cell_at numbers' (names_of p) g from) group move.group_in (λ g g_in not. cell_stays g from move.from_in (λ s i. not s) (λ s i. not s)) in
          omega (arith, one, cells_moved.left, totals_moved.left, flow.columns from move.from_in, ap (λ x. get_or sums' x 0) is, ap (λ x. sum_to (groups_of p) (λ g. cell_at numbers' (names_of p) g x)) is))
          (λ (not_from : v ≡ from → ⊥).
          ⊎_elim
          (λ (is : v ≡ to).
          let one = sum_one (groups_of p) (λ g. cell_at numbers (names_of p) g to) (λ g. cell_at numbers' (names_of p) g to) group move.group_in (λ g g_in not. cell_stays g to move.to_in (λ s i. not s) (λ s i. not s)) in
          omega (arith, one, cells_moved.entered, totals_moved.entered, flow.columns to move.to_in, ap (λ x. get_or sums' x 0) is, ap (λ x. sum_to (groups_of p) (λ g. cell_at numbers' (names_of p) g x)) is))
          (λ (not_to : v ≡ to → ⊥).
          totals_moved.others v not_from not_to
          ∙ (flow.columns v v_in ∙ sum_same (groups_of p) (λ g. cell_at numbers (names_of p) g v) (λ g. cell_at numbers' (names_of p) g v) (λ g g_in. sym (cell_stays g v v_in (λ s. not_from) (λ s. not_to)))))
          (cases_eq v to))
          (cases_eq v from)

      pub free_after : (g v : ℕ) → g < groups_of p → v < names_of p → 0 < cell_at numbers' (names_of p) g v → may_take p.groups.items p.costs.items (names_of p) g v ≡ true
      free_after g v g_in v_in some =
          ⊎_elim
          (λ (is : g ≡ group).
          ⊎_elim
          (λ (at_to : v ≡ to). ap (λ h. may_take p.groups.items p.costs.items (names_of p) h v) is ∙ (ap (may_take p.groups.items p.costs.items (names_of p) group) at_to ∙ move.allowed))
          (λ (not_to : v ≡ to → ⊥).
          ⊎_elim
          (λ (at_from : v ≡ from).
          flow.free g v g_in v_in (omega (arith, some, cells_moved.left, ap (λ h. cell_at numbers' (names_of p) h v) is, ap (cell_at numbers' (names_of p) group) at_from, ap (λ h. cell_at numbers (names_of p) h v) is, ap (cell_at numbers (names_of p) group) at_from)))
          (λ (not_from : v ≡ from → ⊥). flow.free g v g_in v_in (omega (arith, some, cell_stays g v v_in (λ s. not_from) (λ s. not_to))))
          (cases_eq v from))
          (cases_eq v to))
          (λ (not : g ≡ group → ⊥). flow.free g v g_in v_in (omega (arith, some, cell_stays g v v_in (λ s i. not s) (λ s i. not s))))
          (cases_eq g group)

      -- the group alone has points where it had none, at the name that they came to
      pub arrived : (g v : ℕ) → v < names_of p → 0 < cell_at numbers' (names_of p) g v → (0 < cell_at numbers (names_of p) g v) ⊎ ((g ≡ group) × (v ≡ to))
      arrived g v v_in some =
          ⊎_elim
          (λ (is : g ≡ group).
          ⊎_elim
          (λ (at_to : v ≡ to). inr (is, at_to))
          (λ (not_to : v ≡ to → ⊥).
          ⊎_elim
          (λ (at_from : v ≡ from).
          inl (omega (arith, some, cells_moved.left, ap (λ h. cell_at numbers' (names_of p) h v) is, ap (cell_at numbers' (names_of p) group) at_from, ap (λ h. cell_at numbers (names_of p) h v) is, ap (cell_at numbers (names_of p) group) at_from)))
          (λ (not_from : v ≡ from → ⊥). inl (omega (arith, some, cell_stays g v v_in (λ _. not_from) (λ _. not_to))))
          (cases_eq v from))
          (cases_eq v to))
          (λ (not : g ≡ group → ⊥). inl (omega (arith, some, cell_stays g v v_in (λ is _. not is) (λ is _. not is))))
          (cases_eq g group)
