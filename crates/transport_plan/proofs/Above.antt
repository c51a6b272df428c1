-- The old names of the points that stand at settled names are over their high limits.
use Rattle.std.proofs.Common.{◌≡◌, ◌==◌, ◌||◌, ℕ, ◌+◌, ◌*◌, ◌<◌, ◌≤◌, ⊎_elim, List, [], length, get_or, Bool, true, false, not, nat_lt, refl, sym, ap, ◌∙◌, subst, arith}
use Rattle.std.proofs.lemmas.Bool.{cases_eq, eq-eqb, or_left, or_right}
use Rattle.std.proofs.lemmas.Bool.Decides.{nat_tests}
use Rattle.std.proofs.lemmas.List.Elements.{All-from_get_or}
use Rattle.std.proofs.lemmas.Option.{slice_get-get_or}
use Rattle.std.specs.List.{list_any}
use Rattle.std.specs.Map.{keys_of}
use Rattle.bucket_core.specs.Rule.{Entries}
use Rattle.transport_plan.specs.Cuts.{IsStuck}
use Rattle.transport_plan.proofs.DeficientCuts.{stuck_is_over}
use Rattle.min_cost_flow.specs.Placing.{IsStuckAbove}
use Rattle.price_core.specs.Limits.{AreLimits}
use Rattle.min_cost_flow.specs.Problem.{group_at, names_of}
use Rattle.min_cost_flow.specs.declared.problem.FlowProblem.{FlowProblem}
use Rattle.min_cost_flow.specs.Flow.{IsFlow}
use Rattle.min_cost_flow.specs.declared.flow.Flow.{Flow}
use Rattle.min_cost_flow.specs.Found.{rank_of}
use Rattle.min_cost_flow.specs.declared.search.Search.{Search}
use Rattle.transport_core.specs.Assignment.{Arc, flows_of, inflow}
use Rattle.transport_core.specs.Deficient.{IsOver, is_among, may_become}
use Rattle.transport_core.specs.Groups.{AreSizes}
use Rattle.transport_core.specs.Instance.{TransportProblem}
use Rattle.transport_plan.specs.Numbered.{IsNumbered, limit_at, name_at, row_at}
use Rattle.transport_plan.specs.Chosen.{chosen}
use Rattle.transport_plan.specs.Marked.{AreHeld}
use Rattle.transport_plan.proofs.Choosing.{among_from, among_to, chosen_from, chosen_listed}
use Rattle.transport_plan.proofs.ListedPoints.{flows_all}
use Rattle.transport_plan.proofs.Standing.{allowed, cell_is, group_in, name_in, named, spent, total_is, wide}

pub less_from : (a b : ℕ) → nat_lt a b ≡ true → a < b
less_from a b is = grind (arith, nat_tests)

pub less_true : (a b : ℕ) → a < b → nat_lt a b ≡ true
less_true a b less = grind (arith, nat_tests)

implied : (a b : Bool) → (a ≡ true → b ≡ true) → (not a || b) ≡ true
implied true b holds = holds refl
implied false b holds = refl

-- where points are there, what holds of them
pub if_some : (points : ℕ) (a b : Bool) → (0 < points → a ≡ true → b ≡ true) → ((points == 0) || (not a || b)) ≡ true
if_some points a b holds =
    ⊎_elim
    (λ (none : points ≡ 0). or_left (points == 0) (not a || b) (eq-eqb points 0 none))
    (λ (some : points ≡ 0 → ⊥). or_right (points == 0) (not a || b) (implied a b (holds (omega (arith, some)))))
    (cases_eq points 0)

module _ (p : TransportProblem) (q : FlowProblem) (lawful : AreLimits p.limits) (are : IsNumbered p q) (f : Flow) (s : Search) (flow : IsFlow q f) (stuck : IsStuckAbove q f s) (marks : List Bool) (held : AreHeld q f s marks) where
  abbrev mark : ℕ → Bool
  mark v = get_or marks v false

  abbrev settled : ℕ → Bool
  settled v = nat_lt (rank_of s v) (names_of q + 1)

  abbrev set : List (List ℕ)
  set = chosen (keys_of p.limits) mark

  -- the settled names
  abbrev inside : List ℕ → Bool
  inside n = is_among (chosen (keys_of p.limits) settled) n

  inside_to : (v : ℕ) → v < length p.limits → rank_of s v < names_of q + 1 → inside (name_at p v) ≡ true
  inside_to v v_in in_rank = among_to (keys_of p.limits) settled v (omega (arith, v_in, wide p)) (less_true (rank_of s v) (names_of q + 1) in_rank)

  inside_from : (v : ℕ) → v < length p.limits → inside (name_at p v) ≡ true → rank_of s v < names_of q + 1
  inside_from v v_in is = less_from (rank_of s v) (names_of q + 1) (among_from (keys_of p.limits) settled v lawful.rise (omega (arith, v_in, wide p)) is)

  at_settled : (g v : ℕ) → g < length p.groups → v < length p.limits → 0 < get_or f.placed.items (g * length p.limits + v) 0 → inside (name_at p v) ≡ true → is_among set (row_at p g).0.0 ≡ true
  at_settled g v g_in v_in some is =
      let u = (group_at q.groups.items g).variant in
      let marked : mark u ≡ true = held.held g v (group_in p q are g g_in) (name_in p q are v v_in) (omega (arith, some, cell_is p q are lawful f flow g v)) (inside_from v v_in is) in
      ap (is_among set) (sym (are.variant g g_in)) ∙ among_to (keys_of p.limits) mark u (omega (arith, are.variant_in g g_in, wide p)) marked

  reached : (v : ℕ) → v < length p.limits → list_any (λ from. may_become p.pricing from (name_at p v)) set ≡ true → inside (name_at p v) ≡ true
  reached v v_in some =
      let c = chosen_from (λ from. may_become p.pricing from (name_at p v)) (keys_of p.limits) mark some in
      let u_in : c.0 < length p.limits = omega (arith, c.1, wide p) in
      inside_to v v_in (held.closed c.0 v (name_in p q are c.0 u_in) (name_in p q are v v_in) c.2 (allowed p q are c.0 v u_in v_in ∙ c.3))

  full_at : (v : ℕ) → v < length p.limits → inside (name_at p v) ≡ true → (limit_at p v).1.1 ≤ inflow (flows_of p f.placed.items) (name_at p v)
  full_at v v_in is = omega (arith, stuck.full v (name_in p q are v v_in) (inside_from v v_in is), are.high v v_in, total_is p q are lawful f flow v v_in)

  stuck_is : IsStuck p f.placed.items inside set
  stuck_is =
      let above_in : stuck.above < length p.limits = omega (arith, stuck.within, are.names) in
      record {
        spent = spent p q are lawful f flow;
        listed = chosen_listed (keys_of p.limits) mark;
        held = flows_all (λ (a : Arc × ℕ). (a.1 == 0) || (not (inside a.0.1) || is_among set a.0.0.0)) p.groups (keys_of p.limits) f.placed.items
            (λ g v g_in v_in.
            let v_name : v < length p.limits = omega (arith, v_in, wide p) in
            let places : get_or f.placed.items (g * length (keys_of p.limits) + v) 0 ≡ get_or f.placed.items (g * length p.limits + v) 0 = ap (λ n. get_or f.placed.items (g * n + v) 0) (wide p) in
            if_some (get_or f.placed.items (g * length (keys_of p.limits) + v) 0) (inside (name_at p v)) (is_among set (row_at p g).0.0) (λ some is. at_settled g v g_in v_name (omega (arith, some, places)) is));
        closed = All-from_get_or (λ l. list_any (λ from. may_become p.pricing from l.0) set ≡ true → inside l.0 ≡ true) p.limits ([], (0, 0))
            (λ v v_in. subst (λ n. list_any (λ from. may_become p.pricing from n) set ≡ true → inside n ≡ true) (named p v) (reached v v_in));
        full = All-from_get_or (λ l. inside l.0 ≡ true → l.1.1 ≤ inflow (flows_of p f.placed.items) l.0) p.limits ([], (0, 0))
            (λ v v_in. subst (λ n. inside n ≡ true → (limit_at p v).1.1 ≤ inflow (flows_of p f.placed.items) n) (named p v) (full_at v v_in));
        above = (
          stuck.above,
          limit_at p stuck.above,
          slice_get-get_or p.limits stuck.above ([], (0, 0)) above_in,
          ap inside (sym (named p stuck.above)) ∙ inside_to stuck.above above_in stuck.settled,
          omega (arith, stuck.over, are.high stuck.above above_in, total_is p q are lawful f flow stuck.above above_in, ap (inflow (flows_of p f.placed.items)) (named p stuck.above)),
        );
      }

  pub over_set : (old : Entries) (inputs : List (List ℕ)) → AreSizes old inputs p.groups → IsOver old p.limits p.pricing (chosen (keys_of p.limits) (λ v. get_or marks v false))
  over_set old inputs sizes = stuck_is_over p f.placed.items inside set old inputs lawful sizes stuck_is
