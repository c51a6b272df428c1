-- The names that are not settled are under their low limits, and where all points are placed no set is over its high limits.
use Rattle.std.proofs.Common.{◌≡◌, ◌==◌, ◌||◌, ℕ, ◌+◌, ◌*◌, ◌<◌, ◌≤◌, ⊎_elim, List, [], length, get_or, Bool, true, false, not, sym, ap, ◌∙◌, subst, arith}
use Rattle.std.proofs.lemmas.Bool.{cases_eq, cases_lt, le-leb, not-true, or_cases}
use Rattle.std.proofs.lemmas.List.Elements.{All-from_get_or}
use Rattle.std.proofs.lemmas.List.Sums.{list_all-from_AllPass}
use Rattle.std.proofs.lemmas.Option.{slice_get-get_or}
use Rattle.std.specs.List.{list_any}
use Rattle.std.specs.Map.{keys_of}
use Rattle.std.specs.Prelude.{nat_le}
use Rattle.bucket_core.specs.Rule.{Entries}
use Rattle.transport_plan.specs.Cuts.{IsUnmet}
use Rattle.transport_plan.proofs.DeficientCuts.{unmet_is_under}
use Rattle.min_cost_flow.specs.Meeting.{IsStuckBelow}
use Rattle.price_core.specs.Limits.{AreLimits}
use Rattle.price_core.specs.Pricing.{is_forbidden}
use Rattle.min_cost_flow.specs.Problem.{IsFlowProblem, group_at, is_allowed, names_of}
use Rattle.min_cost_flow.specs.declared.problem.FlowProblem.{FlowProblem}
use Rattle.min_cost_flow.specs.declared.flow.Flow.{Flow}
use Rattle.min_cost_flow.specs.Found.{rank_of}
use Rattle.min_cost_flow.specs.declared.search.Search.{Search}
use Rattle.transport_core.proofs.Arcs.{no_points, not_barred}
use Rattle.transport_core.proofs.Plans.{none_over}
use Rattle.transport_core.specs.Assignment.{Arc, IsPlaced, flows_of, inflow}
use Rattle.transport_core.specs.Deficient.{IsOver, IsUnder, is_among, may_become}
use Rattle.transport_core.specs.Groups.{AreSizes}
use Rattle.transport_core.specs.Instance.{TransportProblem}
use Rattle.transport_plan.specs.Numbered.{IsNumbered, limit_at, name_at, row_at}
use Rattle.transport_plan.specs.Chosen.{chosen}
use Rattle.transport_plan.specs.Marked.{AreUnsettled}
use Rattle.transport_plan.proofs.Above.{if_some, less_from, less_true}
use Rattle.transport_plan.proofs.Choosing.{among_from, among_to, chosen_from, chosen_listed}
use Rattle.transport_plan.proofs.ListedPoints.{flows_all}
use Rattle.transport_plan.proofs.Standing.{cell_is, group_in, may, name_in, named, spent, total_is, wide}

module _ (p : TransportProblem) (q : FlowProblem) (lawful : AreLimits p.limits) (ok : IsFlowProblem q) (are : IsNumbered p q) (f : Flow) (s : Search) (stuck : IsStuckBelow q f s) where
  module _ (marks : List Bool) (unsettled : AreUnsettled q s marks) where
    abbrev mark : ℕ → Bool
    mark v = get_or marks v false

    abbrev set : List (List ℕ)
    set = chosen (keys_of p.limits) mark

    among : (v : ℕ) → v < length p.limits → names_of q < rank_of s v → is_among set (name_at p v) ≡ true
    among v v_in out = among_to (keys_of p.limits) mark v (omega (arith, v_in, wide p)) (unsettled.each v (name_in p q are v v_in) ∙ less_true (names_of q) (rank_of s v) out)

    marked_from : (v : ℕ) → v < length p.limits → mark v ≡ true → names_of q < rank_of s v
    marked_from v v_in is = less_from (names_of q) (rank_of s v) (sym (unsettled.each v (name_in p q are v v_in)) ∙ is)

    among_name : (v : ℕ) → v < length p.limits → is_among set (name_at p v) ≡ true → names_of q < rank_of s v
    among_name v v_in is = marked_from v v_in (among_from (keys_of p.limits) mark v lawful.rise (omega (arith, v_in, wide p)) is)

    -- no point at a settled name may take another
    none_enters : (g v w : ℕ) → g < length p.groups → v < length p.limits → w < length p.limits → 0 < get_or f.placed.items (g * length p.limits + v) 0 → rank_of s v < names_of q + 1
        → may_become p.pricing (row_at p g).0.0 (name_at p w) ≡ true → rank_of s w < names_of q + 1
    none_enters g v w g_in v_in w_in some settled allowed =
        stuck.closed g v w (group_in p q are g g_in) (name_in p q are v v_in) (name_in p q are w w_in) (omega (arith, some, cell_is p q are lawful f stuck.flow g v)) settled (may p q are g w g_in w_in ∙ allowed)

    abbrev wanted : List ℕ → Bool
    wanted from = is_among set from || list_any (may_become p.pricing from) set

    not_wanted : (g v : ℕ) → g < length p.groups → v < length p.limits → 0 < get_or f.placed.items (g * length p.limits + v) 0 → rank_of s v < names_of q + 1 → wanted (row_at p g).0.0 ≡ true → ⊥
    not_wanted g v g_in v_in some settled is =
        let u = (group_at q.groups.items g).variant in
        let u_in = are.variant_in g g_in in
        let from = (row_at p g).0.0 in
        ⊎_elim
        (λ (old : is_among set from ≡ true).
        let here = among_name u u_in (ap (is_among set) (are.variant g g_in) ∙ old) in
        let stays : may_become p.pricing from (name_at p u) ≡ true = sym (may p q are g u g_in u_in) ∙ ap is_allowed (ok.groups.stay g (group_in p q are g g_in)) in
        omega (arith, here, none_enters g v u g_in v_in u_in some settled stays))
        (λ (new : list_any (may_become p.pricing from) set ≡ true).
        let c = chosen_from (may_become p.pricing from) (keys_of p.limits) mark new in
        let w_in : c.0 < length p.limits = omega (arith, c.1, wide p) in
        omega (arith, marked_from c.0 w_in c.2, none_enters g v c.0 g_in v_in w_in some settled c.3))
        (or_cases (is_among set from) (list_any (may_become p.pricing from) set) is)

    enters : (g v : ℕ) → g < length p.groups → v < length p.limits → 0 < get_or f.placed.items (g * length p.limits + v) 0 → wanted (row_at p g).0.0 ≡ true → is_among set (name_at p v) ≡ true
    enters g v g_in v_in some is =
        ⊎_elim
        (λ (settled : rank_of s v < names_of q + 1). absurd (not_wanted g v g_in v_in some settled is))
        (λ (not : names_of q + 1 ≤ rank_of s v). among v v_in (omega (arith, not)))
        (cases_lt (rank_of s v) (names_of q + 1))

    bare_at : (v : ℕ) → v < length p.limits → is_among set (name_at p v) ≡ true → inflow (flows_of p f.placed.items) (name_at p v) ≤ (limit_at p v).1.0
    bare_at v v_in is = omega (arith, stuck.bare v (name_in p q are v v_in) (omega (arith, among_name v v_in is)), are.low v v_in, total_is p q are lawful f stuck.flow v v_in)

    unmet_is : IsUnmet p f.placed.items set
    unmet_is =
        let below_in : stuck.below < length p.limits = omega (arith, stuck.within, are.names) in
        record {
          spent = spent p q are lawful f stuck.flow;
          listed = chosen_listed (keys_of p.limits) mark;
          held = flows_all (λ (a : Arc × ℕ). (a.1 == 0) || (not (wanted a.0.0.0) || is_among set a.0.1)) p.groups (keys_of p.limits) f.placed.items
              (λ g v g_in v_in.
              let v_name : v < length p.limits = omega (arith, v_in, wide p) in
              let places : get_or f.placed.items (g * length (keys_of p.limits) + v) 0 ≡ get_or f.placed.items (g * length p.limits + v) 0 = ap (λ n. get_or f.placed.items (g * n + v) 0) (wide p) in
              if_some (get_or f.placed.items (g * length (keys_of p.limits) + v) 0) (wanted (row_at p g).0.0) (is_among set (name_at p v)) (λ some is. enters g v g_in v_name (omega (arith, some, places)) is));
          bare = All-from_get_or (λ l. is_among set l.0 ≡ true → inflow (flows_of p f.placed.items) l.0 ≤ l.1.0) p.limits ([], (0, 0))
              (λ v v_in. subst (λ n. is_among set n ≡ true → inflow (flows_of p f.placed.items) n ≤ (limit_at p v).1.0) (named p v) (bare_at v v_in));
          below = (
            stuck.below,
            limit_at p stuck.below,
            slice_get-get_or p.limits stuck.below ([], (0, 0)) below_in,
            ap (is_among set) (sym (named p stuck.below)) ∙ among stuck.below below_in (omega (arith, stuck.unsettled)),
            omega (arith, stuck.under, are.low stuck.below below_in, total_is p q are lawful f stuck.flow stuck.below below_in, ap (inflow (flows_of p f.placed.items)) (named p stuck.below)),
          );
        }

    pub under_set : (old : Entries) (inputs : List (List ℕ)) → AreSizes old inputs p.groups → IsUnder old p.limits p.pricing (chosen (keys_of p.limits) (λ v. get_or marks v false))
    under_set old inputs sizes = unmet_is_under p f.placed.items set old inputs sizes unmet_is

  free_at : (g v : ℕ) → g < length p.groups → v < length p.limits → 0 < get_or f.placed.items (g * length p.limits + v) 0 → is_forbidden p.pricing (row_at p g).0.0 (name_at p v) ≡ false
  free_at g v g_in v_in some =
      not-true (is_forbidden p.pricing (row_at p g).0.0 (name_at p v))
      (sym (may p q are g v g_in v_in) ∙ stuck.flow.tables.free g v (group_in p q are g g_in) (name_in p q are v v_in) (omega (arith, some, cell_is p q are lawful f stuck.flow g v)))

  placed_is : IsPlaced p f.placed.items
  placed_is = record {
    whole = spent p q are lawful f stuck.flow;
    allowed = flows_all (λ (a : Arc × ℕ). (a.1 == 0) || not (is_forbidden p.pricing a.0.0.0 a.0.1)) p.groups (keys_of p.limits) f.placed.items
        (λ g v g_in v_in.
        let v_name : v < length p.limits = omega (arith, v_in, wide p) in
        let points = get_or f.placed.items (g * length (keys_of p.limits) + v) 0 in
        let barred = is_forbidden p.pricing (row_at p g).0.0 (name_at p v) in
        let places : points ≡ get_or f.placed.items (g * length p.limits + v) 0 = ap (λ n. get_or f.placed.items (g * n + v) 0) (wide p) in
        ⊎_elim
        (λ (none : points ≡ 0). no_points points barred none)
        (λ (some : points ≡ 0 → ⊥). not_barred points barred (free_at g v g_in v_name (omega (arith, some, places))))
        (cases_eq points 0));
    high = list_all-from_AllPass (λ (l : List ℕ × (ℕ × ℕ)). nat_le (inflow (flows_of p f.placed.items) l.0) l.1.1) p.limits
        (All-from_get_or (λ (l : List ℕ × (ℕ × ℕ)). nat_le (inflow (flows_of p f.placed.items) l.0) l.1.1 ≡ true) p.limits ([], (0, 0))
        (λ v v_in. le-leb (inflow (flows_of p f.placed.items) (limit_at p v).0) (limit_at p v).1.1
        (omega (arith, stuck.placed v (name_in p q are v v_in), are.high v v_in, total_is p q are lawful f stuck.flow v v_in, ap (inflow (flows_of p f.placed.items)) (named p v)))));
  }

  pub never_over : (old : Entries) (inputs : List (List ℕ)) (names : List (List ℕ)) → AreSizes old inputs p.groups → IsOver old p.limits p.pricing names → ⊥
  never_over old inputs names sizes over = none_over p f.placed.items old inputs names placed_is sizes over
