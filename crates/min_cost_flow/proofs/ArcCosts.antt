-- What an arc of a flow costs at the most.
use Rattle.std.proofs.Common.{◌≡◌, ℕ, ◌+◌, ◌*◌, ◌<◌, ◌≤◌, ⊎_elim, ℤ, pos, negsuc, neg_ℤ, ◌*ℤ◌, ◌≤ℤ◌, true, List, Option, Some, sym, ap, ◌∙◌, arith}
use Rattle.std.proofs.Math.Nat.{mul-le-mul}
use Rattle.std.proofs.lemmas.Bool.{cases_lt}
use Rattle.std.proofs.lemmas.Int.{ints}
use Rattle.min_cost_flow.specs.Offered.{IsSwitchCost}
use Rattle.min_cost_flow.specs.Problem.{IsFlowProblem, cost_at, group_at, max_count, may_take, names_of, cost_or_zero, switch_cost_at}
use Rattle.min_cost_flow.specs.declared.problem.FlowProblem.{FlowProblem}
use Rattle.min_cost_flow.proofs.Cells.{cell_in}
use Rattle.min_cost_flow.proofs.Entering.{there_is}
use Rattle.min_cost_flow.specs.Flow.{IsFlowAt, groups_of}
use Rattle.min_cost_flow.specs.Network.{HasCostsWithin, arc_at, max_cost}
use Rattle.min_cost_flow.specs.declared.arc.Arc.{Arc}
use Rattle.min_cost_flow.proofs.OptimalLaws.{none_there}

-- what a name costs a point
charge_small : (c : ℕ) (o : Option ℤ) (z : ℤ) → c ≤ max_count → o ≡ Some z → IsSwitchCost z → (pos 0 ≤ℤ (pos c *ℤ cost_or_zero o)) × ((pos c *ℤ cost_or_zero o) ≤ℤ pos max_cost)
charge_small c o (pos n) few is switch_cost =
    let low : n ≤ 1000000 = omega (arith, ints, switch_cost.high) in
    let small : c * n ≤ max_count * 1000000 = mul-le-mul few low in
    let value : (pos c *ℤ cost_or_zero o) ≡ pos (c * n) = ap (λ x. pos c *ℤ cost_or_zero x) is in
    (omega (arith, ints, value), omega (arith, ints, value, small))
charge_small c o (negsuc n) few is switch_cost = absurd (omega (arith, ints, switch_cost.low))

module _ (p : FlowProblem) (ok : IsFlowProblem p) (numbers sums : List ℕ) (cells : List (Option Arc)) (flow : IsFlowAt p numbers sums cells) where
  charge_in : (g w : ℕ) → g < groups_of p → w < names_of p → may_take p.groups.items p.costs.items (names_of p) g w ≡ true
      → (pos 0 ≤ℤ cost_at p.groups.items p.costs.items (names_of p) g w) × (cost_at p.groups.items p.costs.items (names_of p) g w ≤ℤ pos max_cost)
  charge_in g w g_in w_in allowed =
      let variant = (group_at p.groups.items g).variant in
      let z = there_is (switch_cost_at p.costs.items (names_of p) variant w) allowed in
      charge_small (group_at p.groups.items g).count (switch_cost_at p.costs.items (names_of p) variant w) z.0 (ok.groups.count g g_in) z.1
      (ok.costs.each (variant * names_of p + w) z.0 (cell_in (names_of p) (names_of p) variant w (ok.groups.variant g g_in) w_in) z.1)

  between_cheap : (v w : ℕ) (a : Arc) → v < names_of p → w < names_of p → arc_at cells (names_of p + 1) v w ≡ Some a → (neg_ℤ (pos max_cost) ≤ℤ a.cost) × (a.cost ≤ℤ pos max_cost)
  between_cheap v w a v_in w_in is =
      let r = flow.residual in
      let g_in = r.group v w a v_in w_in is in
      let here = charge_in a.group v g_in v_in (flow.free a.group v g_in v_in (r.there v w a v_in w_in is)) in
      let there = charge_in a.group w g_in w_in (r.allowed v w a v_in w_in is) in
      let sum = r.cost v w a v_in w_in is in
      (omega (arith, ints, here.0, here.1, there.0, there.1, sum), omega (arith, ints, here.0, here.1, there.0, there.1, sum))

  cheap : (v w : ℕ) (a : Arc) → v < names_of p + 1 → w < names_of p + 1 → arc_at cells (names_of p + 1) v w ≡ Some a → (neg_ℤ (pos max_cost) ≤ℤ a.cost) × (a.cost ≤ℤ pos max_cost)
  cheap v w a v_in w_in is =
      ⊎_elim
      (λ (v_name : v < names_of p).
      ⊎_elim
      (λ (w_name : w < names_of p). between_cheap v w a v_name w_name is)
      (λ (last : names_of p ≤ w).
      let same : w ≡ names_of p = omega (arith, last, w_in) in
      let free = flow.residual.room v a v_name (ap (arc_at cells (names_of p + 1) v) (sym same) ∙ is) in
      (omega (arith, ints, free.1), omega (arith, ints, free.1)))
      (cases_lt w (names_of p)))
      (λ (last : names_of p ≤ v).
      let same : v ≡ names_of p = omega (arith, last, v_in) in
      let at : arc_at cells (names_of p + 1) (names_of p) w ≡ Some a = ap (λ x. arc_at cells (names_of p + 1) x w) (sym same) ∙ is in
      ⊎_elim
      (λ (w_name : w < names_of p).
      let free = flow.residual.spare w a w_name at in
      (omega (arith, ints, free.1), omega (arith, ints, free.1)))
      (λ (w_last : names_of p ≤ w).
      let w_same : w ≡ names_of p = omega (arith, w_last, w_in) in
      absurd (none_there a (sym flow.residual.none ∙ (ap (arc_at cells (names_of p + 1) (names_of p)) (sym w_same) ∙ at))))
      (cases_lt w (names_of p)))
      (cases_lt v (names_of p))

  pub cheap_arcs : HasCostsWithin (names_of p + 1) (arc_at cells (names_of p + 1)) max_cost
  cheap_arcs = record { low = λ v w a v_in w_in is. (cheap v w a v_in w_in is).0; high = λ v w a v_in w_in is. (cheap v w a v_in w_in is).1 }
