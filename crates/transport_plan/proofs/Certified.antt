-- The certificate of a cheapest flow proves its cost, and a plan file can hold its numbers.
use Rattle.std.proofs.Common.{◌≡◌, ℕ, ◌^◌, ◌<◌, ◌≤◌, ℤ, pos, ◌-ℤ◌, List, [], length, get_or, Option, true, sym, ap, ◌∙◌, subst, arith}
use Rattle.std.proofs.lemmas.Bool.{lt-ltb}
use Rattle.std.proofs.lemmas.Int.{ints}
use Rattle.std.specs.List.{zip}
use Rattle.std.specs.Map.{keys_of}
use Rattle.flag_text.proofs.Bools.{both}
use Rattle.flag_text.specs.Shape.{is_in_range}
use Rattle.transport_plan.specs.Slackness.{certificate_of}
use Rattle.transport_plan.proofs.ProvedFlow.{proved}
use Rattle.min_cost_flow.specs.Cheapest.{IsCheapest}
use Rattle.transport_core.specs.WrittenCertificate.{has_whole_numbers}
use Rattle.min_cost_flow.specs.Problem.{IsFlowProblem, group_at, names_of, switch_cost_at}
use Rattle.min_cost_flow.specs.declared.problem.FlowProblem.{FlowProblem}
use Rattle.min_cost_flow.specs.declared.problem.Group.{Group}
use Rattle.min_cost_flow.specs.Flow.{IsFlow, groups_of, total_at}
use Rattle.min_cost_flow.specs.declared.flow.Flow.{Flow}
use Rattle.min_cost_flow.specs.Found.{potential_of}
use Rattle.min_cost_flow.specs.declared.search.Search.{Search}
use Rattle.transport_core.specs.Assignment.{IsProved}
use Rattle.transport_core.specs.Certificate.{DualPrices}
use Rattle.transport_core.specs.Groups.{GroupKey}
use Rattle.transport_core.specs.Instance.{TransportProblem, IsProblem}
use Rattle.transport_plan.specs.Numbered.{IsNumbered}
use Rattle.transport_plan.specs.Costs.{all_cost}
use Rattle.transport_plan.specs.DualPrices.{IsLeastAt}
use Rattle.transport_plan.proofs.BoundedCost.{all_small, switch_cost_in}
use Rattle.transport_plan.proofs.Costs.{cost_listed}
use Rattle.transport_plan.proofs.Largest.{IsHeld, alpha_whole, beta_whole, charge_small}
use Rattle.transport_plan.proofs.NumberedFlow.{optimal_is, spent_is}
use Rattle.transport_plan.proofs.GroupOffers.{least_offers}

-- the dual prices of the names of a cheapest flow, by number, and those of the groups
pub record AreDualPrices (q : FlowProblem) (s : Search) (alpha beta : List ℤ) : Type 0 where
  pub wide : length beta ≡ names_of q
  pub names : (v : ℕ) → v < names_of q → get_or beta v (pos 0) ≡ (potential_of s v -ℤ potential_of s (names_of q))
  pub long : length alpha ≡ length q.groups.items
  pub groups : (g : ℕ) → g < length q.groups.items → IsLeastAt q.groups.items q.costs.items (length beta) beta g (get_or alpha g (pos 0))

-- the same of lists that are those of the problem and the search
pub duals_are : (q : FlowProblem) (s : Search) (alpha beta names potentials : List ℤ) (groups : List Group) (table : List (Option ℤ)) (width : ℕ) → width ≡ names_of q → potentials ≡ s.potentials.items → groups ≡ q.groups.items → table ≡ q.costs.items
    → names ≡ beta → length beta ≡ width → ((v : ℕ) → v < width → get_or beta v (pos 0) ≡ (get_or potentials v (pos 0) -ℤ get_or potentials width (pos 0))) → length alpha ≡ length groups
    → ((g : ℕ) → g < length groups → IsLeastAt groups table (length names) names g (get_or alpha g (pos 0))) → AreDualPrices q s alpha beta
duals_are q s alpha beta names potentials groups table width width_is potentials_is groups_is table_is names_is size each many least = record {
  wide = size ∙ width_is;
  names = λ v v_in.
      each v (omega (arith, v_in, width_is)) ∙ (ap (λ ps. get_or ps v (pos 0) -ℤ get_or ps width (pos 0)) potentials_is ∙ ap (λ w. potential_of s v -ℤ potential_of s w) width_is);
  long = many ∙ ap length groups_is;
  groups = λ g g_in.
      let a = get_or alpha g (pos 0) in
      subst (λ gs. IsLeastAt gs q.costs.items (length beta) beta g a) groups_is
      (subst (λ t. IsLeastAt groups t (length beta) beta g a) table_is
      (subst (λ ns. IsLeastAt groups table (length ns) ns g a) names_is (least g (omega (arith, g_in, ap length groups_is)))));
}

pub cost_same : (q : FlowProblem) (f : Flow) (groups : List Group) (table : List (Option ℤ)) (placed : List ℕ) (width : ℕ) → width ≡ names_of q → groups ≡ q.groups.items → table ≡ q.costs.items → placed ≡ f.placed.items
    → all_cost groups table placed width (length groups) ≡ all_cost q.groups.items q.costs.items f.placed.items (names_of q) (groups_of q)
cost_same q f groups table placed width width_is groups_is table_is placed_is =
    ap (λ gs. all_cost gs table placed width (length gs)) groups_is
    ∙ (ap (λ t. all_cost q.groups.items t placed width (groups_of q)) table_is
    ∙ (ap (λ xs. all_cost q.groups.items q.costs.items xs width (groups_of q)) placed_is ∙ ap (λ w. all_cost q.groups.items q.costs.items f.placed.items w (groups_of q)) width_is))

pub same_certificate : (p : TransportProblem) (alpha beta : List ℤ) (cost : ℕ) (rows : List (GroupKey × ℤ)) (names : List (List ℕ × ℤ)) → rows ≡ zip (keys_of p.groups) alpha → names ≡ zip (keys_of p.limits) beta
    → record { alpha = rows; beta = names; cost = cost } ≡ certificate_of p alpha beta cost
same_certificate p alpha beta cost rows names rows_are names_are =
    ap (λ (rs : List (GroupKey × ℤ)). let d : DualPrices = record { alpha = rs; beta = names; cost = cost } in d) rows_are
    ∙ ap (λ (ns : List (List ℕ × ℤ)). let d : DualPrices = record { alpha = zip (keys_of p.groups) alpha; beta = ns; cost = cost } in d) names_are

module _ (p : TransportProblem) (q : FlowProblem) (f : Flow) (s : Search) (alpha beta : List ℤ) (cost : ℕ) (problem : IsProblem p) (are : IsNumbered p q) (lawful : IsFlowProblem q) (flow : IsFlow q f) (cheapest : IsCheapest q f s)
    (duals : AreDualPrices q s alpha beta) (cost_is : cost ≡ all_cost q.groups.items q.costs.items f.placed.items (names_of q) (groups_of q)) where
  name_in : (v : ℕ) → v < length p.limits → v < names_of q
  name_in v v_in = omega (arith, v_in, are.names)

  group_in : (g : ℕ) → g < length p.groups → g < length q.groups.items
  group_in g g_in = omega (arith, g_in, are.groups)

  low_kept : (v : ℕ) → v < length p.limits → get_or q.low.items v 0 ≤ total_at f v
  low_kept v v_in = cheapest.lows v (name_in v v_in)

  high_kept : (v : ℕ) → v < length p.limits → total_at f v ≤ get_or q.high.items v 0
  high_kept v v_in = cheapest.highs v (name_in v v_in)

  wide : length beta ≡ length p.limits
  wide = duals.wide ∙ are.names

  over_limits : (v : ℕ) → v < length p.limits → get_or beta v (pos 0) ≡ (potential_of s v -ℤ potential_of s (length p.limits))
  over_limits v v_in = duals.names v (name_in v v_in) ∙ ap (λ n. potential_of s v -ℤ potential_of s n) are.names

  long : length alpha ≡ length p.groups
  long = duals.long ∙ are.groups

  least : (g : ℕ) → g < length p.groups → IsLeastAt q.groups.items q.costs.items (names_of q) beta g (get_or alpha g (pos 0))
  least g g_in = subst (λ k. IsLeastAt q.groups.items q.costs.items k beta g (get_or alpha g (pos 0))) duals.wide (duals.groups g (group_in g g_in))

  pub is_proved : IsProved p f.placed.items (certificate_of p alpha beta cost)
  is_proved =
      let spent = spent_is p q f.placed.items f.totals.items f.arcs.items (potential_of s) beta are flow.tables cheapest.optimal low_kept high_kept wide over_limits in
      proved p f.placed.items alpha beta cost problem.limits (optimal_is p q f.placed.items f.totals.items f.arcs.items (potential_of s) beta are flow.tables cheapest.optimal low_kept high_kept wide over_limits) long
      (least_offers p q alpha beta are long least) (cost_listed p q f.placed.items f.totals.items f.arcs.items are flow.tables spent ∙ sym cost_is)

  -- the dual price of a name is at most the distance of two potentials
  name_held : (v : ℕ) → v < length beta → IsHeld (get_or beta v (pos 0))
  name_held v v_in =
      let v_name : v < names_of q = omega (arith, v_in, duals.wide) in
      let is = duals.names v v_name in
      let low = cheapest.low v (omega (arith, v_name)) in
      let high = cheapest.high v (omega (arith, v_name)) in
      let limits_low = cheapest.low (names_of q) (omega arith) in
      let limits_high = cheapest.high (names_of q) (omega arith) in
      record { low = omega (arith, ints, is, low, limits_high); high = omega (arith, ints, is, high, limits_low) }

  -- that of a group is what some switch costs, less the dual price of a name
  group_held : (g : ℕ) → g < length alpha → IsHeld (get_or alpha g (pos 0))
  group_held g g_in =
      let g_group : g < length q.groups.items = omega (arith, g_in, duals.long) in
      let tight = (duals.groups g g_group).tight in
      let w = tight.0 in
      let w_name : w < names_of q = omega (arith, tight.2, duals.wide) in
      let price = switch_cost_in q.groups.items q.costs.items f.placed.items (names_of q) lawful.groups lawful.costs g w tight.1 g_group w_name (ap (λ k. switch_cost_at q.costs.items k (group_at q.groups.items g).variant w) (sym duals.wide) ∙ tight.3) in
      let charge = charge_small (group_at q.groups.items g).count tight.1 (lawful.groups.count g g_group) price in
      let is = duals.names w w_name in
      let low = cheapest.low w (omega (arith, w_name)) in
      let high = cheapest.high w (omega (arith, w_name)) in
      let limits_low = cheapest.low (names_of q) (omega arith) in
      let limits_high = cheapest.high (names_of q) (omega arith) in
      record { low = omega (arith, ints, tight.4, charge.0, is, high, limits_low); high = omega (arith, ints, tight.4, charge.1, is, low, limits_high) }

  -- the cost is at most the largest price for each input
  cost_held : is_in_range (pos cost) ≡ true
  cost_held =
      let paid = all_small q.groups.items q.costs.items f.placed.items (names_of q) lawful.groups lawful.costs flow.tables.spent (groups_of q) (omega arith) in
      lt-ltb cost (2 ^ 53) (omega (arith, paid, cost_is))

  pub is_whole : has_whole_numbers (certificate_of p alpha beta cost) ≡ true
  is_whole =
      both _ _ cost_held
      (both _ _ (alpha_whole p.groups (([], 0), 0) alpha (λ g g_in. problem.counts g (([], 0), 0) g_in) group_held) (beta_whole (keys_of p.limits) beta name_held))
