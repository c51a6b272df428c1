-- Points and names by number, as the planning problem has them.
use Rattle.std.proofs.Common.{◌≡◌, ℕ, ◌+◌, ◌*◌, ◌<◌, List, [], length, get_or, Bool, true, false, not, Some, None, pos, refl, sym, ap, ◌∙◌, subst, arith}
use Rattle.std.proofs.Math.ListN.{get_or-map}
use Rattle.std.proofs.lemmas.Map.Entries.{length-keys_of}
use Rattle.std.specs.Map.{keys_of}
use Rattle.std.specs.Prelude.{if◌then◌else◌}
use Rattle.price_core.specs.Limits.{AreLimits}
use Rattle.price_core.specs.Pricing.{is_forbidden, price_of}
use Rattle.min_cost_flow.specs.Problem.{group_at, is_allowed, may_take, names_of, switch_cost_at, sum_to}
use Rattle.min_cost_flow.specs.declared.problem.FlowProblem.{FlowProblem}
use Rattle.min_cost_flow.specs.Flow.{IsFlow, cell_at, groups_of, total_at}
use Rattle.min_cost_flow.specs.declared.flow.Flow.{Flow}
use Rattle.transport_core.specs.Assignment.{flows_of, inflow, spends_all}
use Rattle.transport_core.specs.Deficient.{may_become}
use Rattle.transport_core.specs.Instance.{TransportProblem}
use Rattle.transport_plan.specs.Numbered.{IsNumbered, limit_at, name_at, row_at}
use Rattle.transport_plan.proofs.ListedFlow.{spent_all}
use Rattle.transport_plan.proofs.ListedPoints.{inflow_is}

there_by : (forbidden : Bool) (price : ℕ) → is_allowed (if forbidden then None else Some (pos price)) ≡ not forbidden
there_by true price = refl
there_by false price = refl

-- a name of the limits, by its place
pub named : (p : TransportProblem) (v : ℕ) → name_at p v ≡ (limit_at p v).0
named p v = get_or-map (λ (l : List ℕ × (ℕ × ℕ)). l.0) p.limits v ([], (0, 0))

pub wide : (p : TransportProblem) → length (keys_of p.limits) ≡ length p.limits
wide p = length-keys_of p.limits

module _ (p : TransportProblem) (q : FlowProblem) (are : IsNumbered p q) where
  -- a switch has a price just where it is allowed
  pub allowed : (u w : ℕ) → u < length p.limits → w < length p.limits → is_allowed (switch_cost_at q.costs.items (names_of q) u w) ≡ may_become p.pricing (name_at p u) (name_at p w)
  allowed u w u_in w_in =
      ap is_allowed (are.costs u w u_in w_in)
      ∙ there_by (is_forbidden p.pricing (name_at p u) (name_at p w)) (price_of p.pricing (name_at p u) (name_at p w))

  pub may : (g w : ℕ) → g < length p.groups → w < length p.limits → may_take q.groups.items q.costs.items (names_of q) g w ≡ may_become p.pricing (row_at p g).0.0 (name_at p w)
  may g w g_in w_in =
      allowed (group_at q.groups.items g).variant w (are.variant_in g g_in) w_in ∙ ap (λ n. may_become p.pricing n (name_at p w)) (are.variant g g_in)

  pub name_in : (v : ℕ) → v < length p.limits → v < names_of q
  name_in v v_in = omega (arith, v_in, are.names)

  pub group_in : (g : ℕ) → g < length p.groups → g < groups_of q
  group_in g g_in = omega (arith, g_in, are.groups)

  module _ (lawful : AreLimits p.limits) (f : Flow) (flow : IsFlow q f) where
    k : ℕ
    k = length p.limits

    size : length f.placed.items ≡ length p.groups * length p.limits
    size = flow.tables.placed ∙ (ap (λ n. n * names_of q) are.groups ∙ ap (λ n. length p.groups * n) are.names)

    pub cell_is : (g v : ℕ) → get_or f.placed.items (g * length p.limits + v) 0 ≡ cell_at f.placed.items (names_of q) g v
    cell_is g v = ap (λ n. get_or f.placed.items (g * n + v) 0) (sym are.names)

    -- each group's numbers sum to its points
    pub spent : spends_all p.groups (length p.limits) f.placed.items ≡ true
    spent =
        spent_all p.groups (([], 0), 0) (length p.limits) f.placed.items size
        (λ g g_in. subst (λ n. sum_to n (λ v. get_or f.placed.items (g * n + v) 0) ≡ (row_at p g).1) are.names (flow.tables.spent g (group_in g g_in) ∙ are.points g g_in))

    -- what flows to a name is its total
    pub total_is : (v : ℕ) → v < length p.limits → inflow (flows_of p f.placed.items) (name_at p v) ≡ total_at f v
    total_is v v_in =
        let many = length p.groups in
        let row : (n : ℕ) → ℕ = λ n. sum_to many (λ g. get_or f.placed.items (g * n + v) 0) in
        inflow_is p.groups (keys_of p.limits) f.placed.items v lawful.rise (omega (arith, v_in, wide p)) (size ∙ ap (λ n. length p.groups * n) (sym (wide p)))
        ∙ (ap row (wide p)
        ∙ sym (flow.tables.columns v (name_in v v_in) ∙ (ap (λ n. sum_to n (λ g. cell_at f.placed.items (names_of q) g v)) are.groups ∙ ap row are.names)))
