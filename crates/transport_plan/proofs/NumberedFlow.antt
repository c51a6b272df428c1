-- An optimal flow by number is optimal for the problem.
use Rattle.std.proofs.Common.{◌≡◌, ℕ, ◌+◌, ◌*◌, ◌<◌, ◌≤◌, ℤ, pos, ◌-ℤ◌, ◌*ℤ◌, List, [], length, get_or, Option, Some, None, true, false, refl, sym, ap, ◌∙◌, subst, arith}
use Rattle.std.proofs.lemmas.Bool.{false≢true}
use Rattle.std.proofs.lemmas.Int.{ints}
use Rattle.std.proofs.lemmas.Map.Entries.{length-keys_of}
use Rattle.std.specs.Map.{keys_of}
use Rattle.std.specs.Prelude.{if◌then◌else◌, Bool}
use Rattle.price_core.specs.Pricing.{is_forbidden, price_of}
use Rattle.transport_plan.specs.Slackness.{IsOptimal, charge, columns}
use Rattle.transport_plan.proofs.Slackness.{length-columns}
use Rattle.min_cost_flow.specs.Optimal as numbers
use Rattle.min_cost_flow.specs.Problem.{cost_at, group_at, is_allowed, may_take, names_of, cost_or_zero, switch_cost_at, sum_to}
use Rattle.min_cost_flow.specs.declared.problem.FlowProblem.{FlowProblem}
use Rattle.min_cost_flow.specs.Flow.{IsFlowAt, cell_at, flows_at, groups_of}
use Rattle.min_cost_flow.specs.declared.arc.Arc.{Arc}
use Rattle.transport_core.specs.Assignment.{spends_all}
use Rattle.transport_core.specs.Instance.{TransportProblem}
use Rattle.transport_plan.specs.Numbered.{IsNumbered, name_at, row_at}
use Rattle.transport_plan.proofs.ListedFlow.{IsOptimalAt, balanced, column_is, optimal_rows, spent_all}
use Rattle.transport_plan.proofs.Numbering.{switch_at}

may_by : (forbidden : Bool) (c : ℕ) → is_allowed (if forbidden then None else Some (pos c)) ≡ true → forbidden ≡ false
may_by true c is = absurd (false≢true is)
may_by false c is = refl

there_by : (forbidden : Bool) (c : ℕ) → forbidden ≡ false → is_allowed (if forbidden then None else Some (pos c)) ≡ true
there_by true c is = absurd (false≢true (sym is))
there_by false c is = refl

costs_by : (forbidden : Bool) (c : ℕ) → forbidden ≡ false → cost_or_zero (if forbidden then None else Some (pos c)) ≡ pos c
costs_by true c is = absurd (false≢true (sym is))
costs_by false c is = refl

module _ (p : TransportProblem) (q : FlowProblem) (placed totals : List ℕ) (arcs : List (Option Arc)) (potential : ℕ → ℤ) (beta : List ℤ) (are : IsNumbered p q) (flow : IsFlowAt q placed totals arcs) (optimal : numbers.IsOptimal (flows_at q placed totals) potential)
    (lows : (v : ℕ) → v < length p.limits → get_or q.low.items v 0 ≤ get_or totals v 0) (highs : (v : ℕ) → v < length p.limits → get_or totals v 0 ≤ get_or q.high.items v 0)
    (priced : length beta ≡ length p.limits) (beta_is : (v : ℕ) → v < length p.limits → get_or beta v (pos 0) ≡ (potential v -ℤ potential (length p.limits))) where
  k_is : names_of q ≡ length p.limits
  k_is = are.names

  allowed_is : (g w : ℕ) → g < length p.groups → w < length p.limits → may_take q.groups.items q.costs.items (names_of q) g w ≡ true → is_forbidden p.pricing (row_at p g).0.0 (name_at p w) ≡ false
  allowed_is g w g_in w_in may = may_by (is_forbidden p.pricing (row_at p g).0.0 (name_at p w)) (price_of p.pricing (row_at p g).0.0 (name_at p w)) (ap is_allowed (sym (switch_at p q are g w g_in w_in)) ∙ may)

  may_is : (g w : ℕ) → g < length p.groups → w < length p.limits → is_forbidden p.pricing (row_at p g).0.0 (name_at p w) ≡ false → may_take q.groups.items q.costs.items (names_of q) g w ≡ true
  may_is g w g_in w_in allowed = ap is_allowed (switch_at p q are g w g_in w_in) ∙ there_by (is_forbidden p.pricing (row_at p g).0.0 (name_at p w)) (price_of p.pricing (row_at p g).0.0 (name_at p w)) allowed

  cost_is : (g w : ℕ) → g < length p.groups → w < length p.limits → is_forbidden p.pricing (row_at p g).0.0 (name_at p w) ≡ false → cost_at q.groups.items q.costs.items (names_of q) g w ≡ charge p.pricing (row_at p g).0 (keys_of p.limits) w
  cost_is g w g_in w_in allowed =
      let one : cost_or_zero (switch_cost_at q.costs.items (names_of q) (group_at q.groups.items g).variant w) ≡ pos (price_of p.pricing (row_at p g).0.0 (name_at p w)) =
      ap cost_or_zero (switch_at p q are g w g_in w_in) ∙ costs_by (is_forbidden p.pricing (row_at p g).0.0 (name_at p w)) (price_of p.pricing (row_at p g).0.0 (name_at p w)) allowed in
      ap (λ z. pos (group_at q.groups.items g).count *ℤ z) one ∙ ap (λ c. pos (c * price_of p.pricing (row_at p g).0.0 (name_at p w))) (are.count g g_in)

  size : length placed ≡ length p.groups * length p.limits
  size = flow.placed ∙ (ap (λ n. n * names_of q) are.groups ∙ ap (λ n. length p.groups * n) k_is)

  group_in : (g : ℕ) → g < length p.groups → g < groups_of q
  group_in g g_in = omega (arith, g_in, are.groups)

  name_in : (v : ℕ) → v < length p.limits → v < names_of q
  name_in v v_in = omega (arith, v_in, k_is)

  pub spent_is : spends_all p.groups (length p.limits) placed ≡ true
  spent_is =
      spent_all p.groups (([], 0), 0) (length p.limits) placed size
      (λ g g_in. subst (λ k. sum_to k (λ v. get_or placed (g * k + v) 0) ≡ (row_at p g).1) k_is (flow.spent g (group_in g g_in) ∙ are.points g g_in))

  cell_is : (g v : ℕ) → get_or placed (g * length p.limits + v) 0 ≡ cell_at placed (names_of q) g v
  cell_is g v = ap (λ k. get_or placed (g * k + v) 0) (sym k_is)

  pub total_is : (v : ℕ) → v < length p.limits → get_or (columns p.groups (length p.limits) placed) v 0 ≡ get_or totals v 0
  total_is v v_in =
      column_is p.groups (length p.limits) placed v v_in size spent_is
      ∙ sym (flow.columns v (name_in v v_in) ∙ (ap (λ n. sum_to n (λ g. cell_at placed (names_of q) g v)) are.groups ∙ ap (λ k. sum_to (length p.groups) (λ g. get_or placed (g * k + v) 0)) k_is))

  potential_limits : potential (length p.limits) ≡ potential (names_of q)
  potential_limits = ap potential (sym k_is)

  wide : length (keys_of p.limits) ≡ length p.limits
  wide = length-keys_of p.limits

  optimal_at : IsOptimalAt p.pricing p.groups (([], 0), 0) (keys_of p.limits) (length p.limits) placed beta
  optimal_at = record {
    free = λ g v g_in v_in some.
        let v_name : v < length p.limits = omega (arith, v_in, wide) in
        allowed_is g v g_in v_name (flow.free g v (group_in g g_in) (name_in v v_name) (omega (arith, some, cell_is g v)));
    cheapest = λ g v w g_in v_in w_in some allowed.
        let v_name : v < length p.limits = omega (arith, v_in, wide) in
        let w_name : w < length p.limits = omega (arith, w_in, wide) in
        let there : 0 < cell_at placed (names_of q) g v = omega (arith, some, cell_is g v) in
        let here = allowed_is g v g_in v_name (flow.free g v (group_in g g_in) (name_in v v_name) there) in
        omega (
          arith,
          ints,
          optimal.least g v w (group_in g g_in) (name_in v v_name) (name_in w w_name) there (may_is g w g_in w_name allowed),
          cost_is g v g_in v_name here,
          cost_is g w g_in w_name allowed,
          beta_is v v_name,
          beta_is w w_name,
        );
  }

  pub optimal_is : IsOptimal p placed beta
  optimal_is = record {
    spent = spent_is;
    rows = optimal_rows p.pricing p.groups (([], 0), 0) (keys_of p.limits) (length p.limits) placed beta wide optimal_at;
    priced = priced;
    balance = balanced p.limits ([], (0, 0)) (columns p.groups (length p.limits) placed) beta (length-columns p.groups (length p.limits) placed spent_is) priced
        (λ v v_in.
        let t = total_is v v_in in
        let l = are.low v v_in in
        let h = are.high v v_in in (
          omega (arith, t, l, lows v v_in),
          omega (arith, t, h, highs v v_in),
          (λ less. omega (arith, ints, optimal.room v (name_in v v_in) (omega (arith, less, t, h)), beta_is v v_in, potential_limits)),
          (λ more. omega (arith, ints, optimal.spare v (name_in v v_in) (omega (arith, more, t, l)), beta_is v v_in, potential_limits)),
        ));
  }
