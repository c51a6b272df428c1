-- The cost of a flow fits 64 bits.
use Rattle.std.proofs.Common.{◌≡◌, ℕ, suc, ◌+◌, ◌*◌, ◌<◌, ◌≤◌, ℤ, pos, negsuc, List, length, unsigned_abs, to_z, of_z, Option, Some, None, refl, sym, ap, ◌∙◌, arith}
use Rattle.std.proofs.Math.Nat.{mul_assoc, mul_comm, mul-le-mul_left, mul-le-mul_right}
use Rattle.std.proofs.lemmas.Int.{ints}
use Rattle.std.specs.Int.{w64}
use Rattle.min_cost_flow.specs.Offered.{IsSwitchCost}
use Rattle.min_cost_flow.specs.Problem.{AreGroups, AreSwitchCosts, group_at, inputs_of, max_inputs, switch_cost_at, sum_to}
use Rattle.min_cost_flow.specs.declared.problem.Group.{Group}
use Rattle.min_cost_flow.proofs.Cells.{cell_in}
use Rattle.min_cost_flow.specs.Flow.{cell_at}
use Rattle.min_cost_flow.proofs.Sums.{sum_at_most, sum_has, sum_prefix}
use Rattle.transport_plan.specs.Costs.{all_cost, row_cost, unit_of}
use Rattle.transport_plan.proofs.Costs.{sum_scaled}

shown : (z : ℤ) → IsSwitchCost z → to_z w64 (of_z w64 z) ≡ z
shown z p = omega (arith, ints, p.low, p.high)

product_of : (count r a : ℕ) (z : ℤ) → r ≡ count → a ≡ unsigned_abs z → IsSwitchCost z → r * a ≡ unit_of count (Some z)
product_of count r a (pos n) r_is a_is switch_cost = ap (λ x. x * a) r_is ∙ ap (λ x. count * x) a_is
product_of count r a (negsuc n) r_is a_is switch_cost = absurd (omega (arith, ints, switch_cost.low))

pub product_is : (count r a : ℕ) (z : ℤ) → r ≡ count → a ≡ unsigned_abs (to_z w64 (of_z w64 z)) → IsSwitchCost z → r * a ≡ unit_of count (Some z)
product_is count r a z r_is a_is switch_cost = product_of count r a z r_is (a_is ∙ ap unsigned_abs (shown z switch_cost)) switch_cost

-- an input pays at most the largest price
pub unit_most : (count : ℕ) (o : Option ℤ) → ((z : ℤ) → o ≡ Some z → IsSwitchCost z) → unit_of count o ≤ count * 1000000
unit_most count None switch_cost = omega arith
unit_most count (Some (pos n)) switch_cost =
    let low : n ≤ 1000000 = omega (arith, ints, (switch_cost (pos n) refl).high) in
    mul-le-mul_left count low
unit_most count (Some (negsuc n)) switch_cost = omega arith

moved : (a b m : ℕ) → a * (b * m) ≡ (b * a) * m
moved a b m = sym (mul_assoc a b m) ∙ ap (λ k. k * m) (mul_comm a b)

more : (n : ℕ) (f : ℕ → ℕ) → sum_to (n + 1) f ≡ sum_to n f + f n
more n f = ap (λ m. sum_to m f) (next n)
  where
    next : (n : ℕ) → n + 1 ≡ suc n
    next n = omega arith

module _ (groups : List Group) (costs : List (Option ℤ)) (placed : List ℕ) (names : ℕ) (are : AreGroups names costs groups) (priced : AreSwitchCosts names costs) where
  pub switch_cost_in : (g v : ℕ) (z : ℤ) → g < length groups → v < names → switch_cost_at costs names (group_at groups g).variant v ≡ Some z → IsSwitchCost z
  switch_cost_in g v z g_in v_in is = priced.each ((group_at groups g).variant * names + v) z (cell_in names names (group_at groups g).variant v (are.variant g g_in) v_in) is

  unit_at : (g v : ℕ) → g < length groups → v < names → unit_of (group_at groups g).count (switch_cost_at costs names (group_at groups g).variant v) ≤ (group_at groups g).count * 1000000
  unit_at g v g_in v_in = unit_most (group_at groups g).count (switch_cost_at costs names (group_at groups g).variant v) (λ z is. switch_cost_in g v z g_in v_in is)

  pub inputs_few : (g : ℕ) → g < length groups → inputs_of groups g ≤ max_inputs
  inputs_few g g_in = omega (arith, sum_has (length groups) (inputs_of groups) g g_in, are.inputs)

  module _ (g : ℕ) (g_in : g < length groups) (spent : sum_to names (cell_at placed names g) ≡ (group_at groups g).points) where
    pub row_small : (n : ℕ) → n ≤ names → row_cost groups costs placed names g n ≤ inputs_of groups g * 1000000
    row_small n few =
        let count = (group_at groups g).count in
        let scaled = sum_scaled n (count * 1000000) (cell_at placed names g) (λ v. unit_of count (switch_cost_at costs names (group_at groups g).variant v)) (λ v v_in. unit_at g v g_in (omega (arith, v_in, few))) in
        let all : sum_to n (cell_at placed names g) ≤ (group_at groups g).points = omega (arith, sum_prefix n names (cell_at placed names g) few, spent) in
        let part : sum_to n (cell_at placed names g) * (count * 1000000) ≤ (group_at groups g).points * (count * 1000000) = mul-le-mul_right (count * 1000000) all in
        omega (arith, scaled, part, moved (group_at groups g).points count 1000000)

    pub row_more : (v : ℕ) → row_cost groups costs placed names g (v + 1) ≡ row_cost groups costs placed names g v + cell_at placed names g v * unit_of (group_at groups g).count (switch_cost_at costs names (group_at groups g).variant v)
    row_more v = more v (λ w. cell_at placed names g w * unit_of (group_at groups g).count (switch_cost_at costs names (group_at groups g).variant w))

  module _ (spent : (g : ℕ) → g < length groups → sum_to names (cell_at placed names g) ≡ (group_at groups g).points) where
    pub all_small : (n : ℕ) → n ≤ length groups → all_cost groups costs placed names n ≤ max_inputs * 1000000
    all_small n few =
        let rows = sum_at_most n (λ g. row_cost groups costs placed names g names) (λ g. inputs_of groups g * 1000000) (λ g g_in. row_small g (omega (arith, g_in, few)) (spent g (omega (arith, g_in, few))) names (omega arith)) in
        let scaled = sum_scaled n 1000000 (inputs_of groups) (λ _. 1000000) (λ g g_in. omega arith) in
        let all : sum_to n (inputs_of groups) ≤ max_inputs = omega (arith, sum_prefix n (length groups) (inputs_of groups) few, are.inputs) in
        omega (arith, rows, scaled, all)

    pub all_more : (g : ℕ) → all_cost groups costs placed names (g + 1) ≡ all_cost groups costs placed names g + row_cost groups costs placed names g names
    all_more g = more g (λ h. row_cost groups costs placed names h names)
