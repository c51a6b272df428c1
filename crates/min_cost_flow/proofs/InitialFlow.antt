-- The flow in which each point keeps its variant is one, and optimal by potentials of 0.
use Rattle.std.proofs.Common.{◌≡◌, ℕ, zero, suc, ◌+◌, ◌*◌, ◌<◌, ◌≤◌, ⊎_elim, ℤ, pos, negsuc, ◌*ℤ◌, ◌≤ℤ◌, true, List, length, get_or, Option, Some, refl, sym, ap, ◌∙◌, subst, arith}
use Rattle.std.proofs.lemmas.Bool.{cases_eq}
use Rattle.std.proofs.lemmas.Int.{ints}
use Rattle.min_cost_flow.specs.Optimal.{IsOptimal}
use Rattle.min_cost_flow.specs.Offered.{IsSwitchCost}
use Rattle.min_cost_flow.specs.Problem.{IsFlowProblem, group_at, is_allowed, may_take, names_of, cost_or_zero, switch_cost_at, sum_to}
use Rattle.min_cost_flow.specs.declared.problem.FlowProblem.{FlowProblem}
use Rattle.min_cost_flow.proofs.Cells.{cell_in}
use Rattle.min_cost_flow.proofs.Entering.{there_is}
use Rattle.min_cost_flow.specs.Spans.{AreSpans, IsIn, span_at}
use Rattle.min_cost_flow.specs.declared.span.Span.{Span}
use Rattle.min_cost_flow.specs.Flow.{IsFlowAt, cell_at, flows_at, groups_of}
use Rattle.min_cost_flow.specs.Residual.{AreRebuilt, HasArcs}
use Rattle.min_cost_flow.specs.Initial.{at_home}
use Rattle.min_cost_flow.proofs.Homes.{home_away, home_here}
use Rattle.min_cost_flow.proofs.ResidualRows.{residual_of}
use Rattle.min_cost_flow.proofs.Sums.{sum_one, sum_same}
use Rattle.min_cost_flow.specs.declared.arc.Arc.{Arc}

sum_nothing : (n : ℕ) → sum_to n (λ _. 0) ≡ 0
sum_nothing zero = refl
sum_nothing (suc n) = omega (arith, sum_nothing n)

-- the sum of numbers of which all but one are 0
sum_single : (n : ℕ) (f : ℕ → ℕ) (j : ℕ) → j < n → ((i : ℕ) → i < n → (i ≡ j → ⊥) → f i ≡ 0) → sum_to n f ≡ f j
sum_single n f j j_in rest = omega (arith, sum_one n (λ _. 0) f j j_in rest, sum_nothing n)

free_cost : (c : ℕ) (o : Option ℤ) → o ≡ Some (pos 0) → (pos c *ℤ cost_or_zero o) ≡ pos 0
free_cost c o is = ap (λ x. pos c *ℤ cost_or_zero x) is ∙ none c
  where
    none : (c : ℕ) → (pos c *ℤ pos 0) ≡ pos 0
    none c = omega (arith, ints)

some_cost : (c : ℕ) (o : Option ℤ) (z : ℤ) → o ≡ Some z → IsSwitchCost z → pos 0 ≤ℤ (pos c *ℤ cost_or_zero o)
some_cost c o (pos n) is switch_cost = omega (arith, ints, ap (λ x. pos c *ℤ cost_or_zero x) is)
some_cost c o (negsuc n) is switch_cost = absurd (omega (arith, ints, switch_cost.low))

module _ (p : FlowProblem) (ok : IsFlowProblem p) (numbers sums : List ℕ) (homes : (g v : ℕ) → g < groups_of p → v < names_of p → cell_at numbers (names_of p) g v ≡ at_home p.groups.items g v) where
  pub at_variant : (g v : ℕ) → g < groups_of p → v < names_of p → 0 < cell_at numbers (names_of p) g v → v ≡ (group_at p.groups.items g).variant
  at_variant g v g_in v_in some =
      ⊎_elim (λ (is : v ≡ (group_at p.groups.items g).variant). is) (λ (not : v ≡ (group_at p.groups.items g).variant → ⊥). absurd (omega (arith, some, homes g v g_in v_in, home_away p.groups.items g v not))) (cases_eq v (group_at p.groups.items g).variant)

  stays_free : (g v : ℕ) → g < groups_of p → v ≡ (group_at p.groups.items g).variant → switch_cost_at p.costs.items (names_of p) (group_at p.groups.items g).variant v ≡ Some (pos 0)
  stays_free g v g_in is = ap (switch_cost_at p.costs.items (names_of p) (group_at p.groups.items g).variant) is ∙ ok.groups.stay g g_in

  pub stays_may : (g v : ℕ) → g < groups_of p → v < names_of p → 0 < cell_at numbers (names_of p) g v → may_take p.groups.items p.costs.items (names_of p) g v ≡ true
  stays_may g v g_in v_in some = ap is_allowed (stays_free g v g_in (at_variant g v g_in v_in some))

  pub stays_optimal : IsOptimal (flows_at p numbers sums) (λ _. pos 0)
  stays_optimal = record {
    least = λ g v w g_in v_in w_in some allowed.
        let z = there_is (switch_cost_at p.costs.items (names_of p) (group_at p.groups.items g).variant w) allowed in
        let switch_cost : IsSwitchCost z.0 = ok.costs.each ((group_at p.groups.items g).variant * names_of p + w) z.0 (cell_in (names_of p) (names_of p) (group_at p.groups.items g).variant w (ok.groups.variant g g_in) w_in) z.1 in
        omega (
          arith,
          ints,
          free_cost (group_at p.groups.items g).count (switch_cost_at p.costs.items (names_of p) (group_at p.groups.items g).variant v) (stays_free g v g_in (at_variant g v g_in v_in some)),
          some_cost (group_at p.groups.items g).count (switch_cost_at p.costs.items (names_of p) (group_at p.groups.items g).variant w) z.0 z.1 switch_cost,
        );
    room = λ v v_in less. omega (arith, ints);
    spare = λ v v_in less. omega (arith, ints);
  }

  pub stays_flow : (cells : List (Option Arc)) → length numbers ≡ groups_of p * names_of p → length sums ≡ names_of p → HasArcs (names_of p) cells
      → ((v : ℕ) → v < names_of p → get_or sums v 0 ≡ sum_to (groups_of p) (λ g. at_home p.groups.items g v))
      → AreRebuilt p numbers sums cells → IsFlowAt p numbers sums cells
  stays_flow cells placed totals size sum_is arcs = record {
    placed = placed;
    totals = totals;
    arcs = size;
    spent = λ g g_in.
        let variant = (group_at p.groups.items g).variant in
        let v_in = ok.groups.variant g g_in in
        sum_single (names_of p) (cell_at numbers (names_of p) g) variant v_in (λ v x_in not. homes g v g_in x_in ∙ home_away p.groups.items g v not) ∙ (homes g variant g_in v_in ∙ home_here p.groups.items g variant refl);
    columns = λ v v_in. sum_is v v_in ∙ sum_same (groups_of p) (λ g. at_home p.groups.items g v) (λ g. cell_at numbers (names_of p) g v) (λ g g_in. sym (homes g v g_in v_in));
    free = stays_may;
    residual = residual_of p numbers sums cells arcs.rows arcs.root arcs.none;
  }

  pub stays_spans : (spans : List Span) → length spans ≡ names_of p * names_of p → ((v a : ℕ) → v < names_of p → a < names_of p → (span_at spans (names_of p) v a).end ≤ groups_of p)
      → ((g : ℕ) → g < groups_of p → IsIn (span_at spans (names_of p) (group_at p.groups.items g).variant (group_at p.groups.items g).variant) g) → AreSpans p.groups.items (names_of p) numbers spans
  stays_spans spans size end home = record {
    size = size;
    end = end;
    has = λ g v g_in v_in some. subst (λ x. IsIn (span_at spans (names_of p) x (group_at p.groups.items g).variant) g) (sym (at_variant g v g_in v_in some)) (home g g_in);
  }
