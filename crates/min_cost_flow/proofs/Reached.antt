-- An augmentation to a name below its low limit keeps the flow optimal, and a search that fails leaves names that no point enters.
use Rattle.std.proofs.Common.{◌≡◌, ℕ, ◌+◌, ◌-◌, ◌*◌, ◌<◌, ◌≤◌, ⊎_elim, ℤ, pos, neg_ℤ, ◌+ℤ◌, ◌≤ℤ◌, true, false, Bool, List, get_or, Option, Some, None, MatchOption, sym, ap, ◌∙◌, subst, arith}
use Rattle.std.proofs.Math.Nat.{mul-le-mul_right}
use Rattle.std.proofs.lemmas.Bool.{cases_eq, cases_lt, false≢true}
use Rattle.std.proofs.lemmas.Int.{ints}
use Rattle.std.proofs.lemmas.Option.{get_or_from_slice_get, slice_get-get_or}
use Rattle.std.specs.List.{slice_get}
use Rattle.min_cost_flow.specs.Paths.{IsAugmented}
use Rattle.min_cost_flow.specs.Optimal.{AreLeast, IsOptimal}
use Rattle.min_cost_flow.proofs.OptimalLaws.{optimal_from_reduced}
use Rattle.min_cost_flow.specs.Problem.{IsFlowProblem, names_of}
use Rattle.min_cost_flow.specs.declared.problem.FlowProblem.{FlowProblem}
use Rattle.min_cost_flow.specs.Flow.{IsFlow, flows_of, total_at}
use Rattle.min_cost_flow.specs.declared.flow.Flow.{Flow}
use Rattle.min_cost_flow.proofs.Sums.{sum_one}
use Rattle.min_cost_flow.specs.Found.{HasFound, HasSize, IsStuck, predecessor_of, potential_of, rank_of}
use Rattle.min_cost_flow.specs.Network.{arc_at, max_cost}
use Rattle.min_cost_flow.specs.declared.arc.Arc.{Arc}
use Rattle.min_cost_flow.specs.declared.search.Search.{Search}
use Rattle.min_cost_flow.specs.Meeting.{IsInSecondPass, IsStuckBelow, IsPathToDeficit, WantsBelow, deficit}
use Rattle.min_cost_flow.specs.Placing.{reach}
use Rattle.min_cost_flow.proofs.Wanted.{less_from, less_true}

-- only names below their low limits are wanted
pub wants_name : (p : FlowProblem) (f : Flow) (wanted : List Bool) → WantsBelow p f wanted → (v : ℕ) → v < names_of p + 1 → slice_get wanted v ≡ Some true → (v < names_of p) × (total_at f v < get_or p.low.items v 0)
wants_name p f wanted wants v v_in is =
    let here : get_or wanted v false ≡ true = get_or_from_slice_get wanted v true false is in
    ⊎_elim
    (λ (last : v ≡ names_of p). absurd (false≢true (sym wants.root ∙ (ap (λ i. get_or wanted i false) (sym last) ∙ here))))
    (λ (not : v ≡ names_of p → ⊥).
    let name : v < names_of p = omega (arith, v_in, not) in
    (name, less_from (total_at f v) (get_or p.low.items v 0) (sym (wants.each v name) ∙ here)))
    (cases_eq v (names_of p))

pub wanted_name : (p : FlowProblem) (f : Flow) (wanted : List Bool) → WantsBelow p f wanted → (v : ℕ) → v < names_of p → total_at f v < get_or p.low.items v 0 → slice_get wanted v ≡ Some true
wanted_name p f wanted wants v v_in under = slice_get-get_or wanted v false (omega (arith, v_in, wants.size)) ∙ ap Some (wants.each v v_in ∙ less_true (total_at f v) (get_or p.low.items v 0) under)

-- the bounds of a potential after a search whose node is not below 0
near_below : (n : ℕ) (arc : ℕ → ℕ → Option Arc) (wanted : List Bool) (source : ℕ) (pot pot' : ℕ → ℤ) (predecessor rank : ℕ → ℕ) (node : ℕ) → n ≤ 65 → HasFound n arc wanted source pot pot' predecessor rank node
    → pos 0 ≤ℤ pot node → (v : ℕ) → v < n → neg_ℤ (pos reach) ≤ℤ pot v → pot v ≤ℤ pos 0 → (neg_ℤ (pos reach) ≤ℤ pot' v) × (pot' v ≤ℤ pos 0)
near_below n arc wanted source pot pot' predecessor rank node few found node_low v v_in low high =
    let most : n * max_cost ≤ 65 * max_cost = mul-le-mul_right max_cost few in
    ⊎_elim
    (λ (settled : rank v < n). (omega (arith, ints, node_low, most, found.low v v_in settled), omega (arith, ints, found.fallen v v_in settled, high)))
    (λ (not : n ≤ rank v). (omega (arith, ints, found.kept v v_in not, low), omega (arith, ints, found.kept v v_in not, high)))
    (cases_lt (rank v) n)

pub path_below : (p : FlowProblem) (ok : IsFlowProblem p) (f : Flow) (s s' : Search) (wanted : List Bool) (node : ℕ) → IsInSecondPass p f s → WantsBelow p f wanted → HasSize (names_of p + 1) s'
    → HasFound (names_of p + 1) (arc_at f.arcs.items (names_of p + 1)) wanted (names_of p) (potential_of s) (potential_of s') (predecessor_of s') (rank_of s') node → IsPathToDeficit p f s' node
path_below p ok f s s' wanted node second_pass wants size found =
    let n : ℕ = names_of p + 1 in
    let few : n ≤ 65 = omega (arith, ok.names) in
    let here = wants_name p f wanted wants node found.within found.is_wanted in
    let near : (v : ℕ) → v < n → (neg_ℤ (pos reach) ≤ℤ potential_of s' v) × (potential_of s' v ≤ℤ pos 0) =
    λ v v_in. near_below n (arc_at f.arcs.items n) wanted (names_of p) (potential_of s) (potential_of s') (predecessor_of s') (rank_of s') node few found (second_pass.below node here.0 here.1) v v_in (second_pass.low v v_in) (second_pass.high v v_in) in
    let unsettled : (v : ℕ) → v < names_of p → total_at f v < get_or p.low.items v 0 → n ≤ rank_of s' v =
    λ v v_in under.
    ⊎_elim (λ (settled : rank_of s' v < n). absurd (found.unwanted v (omega (arith, v_in)) settled (wanted_name p f wanted wants v v_in under))) (λ (not : n ≤ rank_of s' v). not) (cases_lt (rank_of s' v) n) in
    record {
      second_pass = record {
        flow = second_pass.flow;
        optimal = optimal_from_reduced (flows_of p f) (arc_at f.arcs.items n) (potential_of s') second_pass.flow.tables.residual found.reduced;
        size = size;
        placed = second_pass.placed;
        low = λ v v_in. (near v v_in).0;
        high = λ v v_in. (near v v_in).1;
        below = λ v v_in under. omega (arith, ints, found.kept v (omega (arith, v_in)) (unsettled v v_in under), second_pass.below v v_in under);
      };
      within = here.0;
      under = here.1;
      traced = λ v v_in on. found.tight v v_in on;
    }

pub stuck_below : (p : FlowProblem) (f : Flow) (s s' : Search) (wanted : List Bool) → IsInSecondPass p f s → WantsBelow p f wanted → HasSize (names_of p + 1) s'
    → IsStuck (names_of p + 1) (arc_at f.arcs.items (names_of p + 1)) wanted (names_of p) (potential_of s) (potential_of s') (rank_of s')
    → (v : ℕ) → v < names_of p → total_at f v < get_or p.low.items v 0 → IsStuckBelow p f s'
stuck_below p f s s' wanted second_pass wants size stuck below within under =
    let n : ℕ = names_of p + 1 in
    record {
      size = size;
      flow = second_pass.flow;
      placed = second_pass.placed;
      below = below;
      within = within;
      unsettled = ⊎_elim (λ (settled : rank_of s' below < n). absurd (stuck.unwanted below (omega (arith, within)) settled (wanted_name p f wanted wants below within under))) (λ (not : n ≤ rank_of s' below). not) (cases_lt (rank_of s' below) n);
      under = under;
      bare = λ v v_in not.
          ⊎_elim
          (λ (spare : get_or p.low.items v 0 < total_at f v).
          let a = second_pass.flow.tables.residual.has_spare v v_in spare in
          absurd (omega (arith, not, stuck.closed (names_of p) v a.0 (omega arith) (omega (arith, v_in)) stuck.source_in a.1)))
          (λ (bare : total_at f v ≤ get_or p.low.items v 0). bare)
          (cases_lt (get_or p.low.items v 0) (total_at f v));
      closed = λ g v w g_in v_in w_in some settled may.
          let a = second_pass.flow.tables.residual.least g v w g_in v_in w_in some may in
          stuck.closed v w a.0 (omega (arith, v_in)) (omega (arith, w_in)) settled a.1;
    }

-- what a search over the flow's arcs tells
pub found_below : (p : FlowProblem) (ok : IsFlowProblem p) (f : Flow) (s s' : Search) (wanted : List Bool) (r : Option ℕ) (arcs : List (Option Arc)) (n k : ℕ) → IsInSecondPass p f s → WantsBelow p f wanted → arcs ≡ f.arcs.items → n ≡ names_of p + 1 → k ≡ names_of p → HasSize n s'
    → MatchOption r (IsStuck n (arc_at arcs n) wanted k (potential_of s) (potential_of s') (rank_of s')) (HasFound n (arc_at arcs n) wanted k (potential_of s) (potential_of s') (predecessor_of s') (rank_of s'))
    → MatchOption r ((v : ℕ) → v < names_of p → total_at f v < get_or p.low.items v 0 → IsStuckBelow p f s') (λ last. IsPathToDeficit p f s' last)
found_below p ok f s s' wanted None arcs n k second_pass wants arcs_are n_is k_is size known =
    stuck_below p f s s' wanted second_pass wants (subst (λ m. HasSize m s') n_is size)
    (subst (λ x. IsStuck (names_of p + 1) (arc_at f.arcs.items (names_of p + 1)) wanted x (potential_of s) (potential_of s') (rank_of s')) k_is
    (subst (λ (xs : List (Option Arc)). IsStuck (names_of p + 1) (arc_at xs (names_of p + 1)) wanted k (potential_of s) (potential_of s') (rank_of s')) arcs_are
    (subst (λ m. IsStuck m (arc_at arcs m) wanted k (potential_of s) (potential_of s') (rank_of s')) n_is known)))
found_below p ok f s s' wanted (Some node) arcs n k second_pass wants arcs_are n_is k_is size known =
    path_below p ok f s s' wanted node second_pass wants (subst (λ m. HasSize m s') n_is size)
    (subst (λ x. HasFound (names_of p + 1) (arc_at f.arcs.items (names_of p + 1)) wanted x (potential_of s) (potential_of s') (predecessor_of s') (rank_of s') node) k_is
    (subst (λ (xs : List (Option Arc)). HasFound (names_of p + 1) (arc_at xs (names_of p + 1)) wanted k (potential_of s) (potential_of s') (predecessor_of s') (rank_of s') node) arcs_are
    (subst (λ m. HasFound m (arc_at arcs m) wanted k (potential_of s) (potential_of s') (predecessor_of s') (rank_of s') node) n_is known)))

module _ (p : FlowProblem) (ok : IsFlowProblem p) (old new : Flow) (s : Search) (last : ℕ) (path : IsPathToDeficit p old s last) (flow : IsFlow p new) (least : AreLeast (flows_of p new) (potential_of s))
    (aug : IsAugmented p old new (potential_of s) (rank_of s) p.low.items (names_of p) last) where
  -- the first name has the potential of the root
  first_level : potential_of s aug.first ≡ potential_of s (names_of p)
  first_level =
      ⊎_elim
      (λ (is : aug.first ≡ names_of p). absurd (omega (arith, is, aug.begins)))
      (λ (next : (a : Arc) × (arc_at old.arcs.items (names_of p + 1) (names_of p) aug.first ≡ Some a) × (potential_of s aug.first ≡ (potential_of s (names_of p) +ℤ a.cost))).
      omega (arith, ints, next.2, (path.second_pass.flow.tables.residual.spare aug.first next.0 aug.begins next.1).1))
      aug.start

  optimal_met : IsOptimal (flows_of p new) (potential_of s)
  optimal_met = record {
    least = least;
    room = λ v v_in less.
        ⊎_elim
        (λ (is : v ≡ aug.first). omega (arith, ints, first_level, ap (potential_of s) is))
        (λ (not_first : v ≡ aug.first → ⊥).
        ⊎_elim
        (λ (is : v ≡ last). path.second_pass.optimal.room v v_in (omega (arith, less, aug.entered, ap (total_at new) is, ap (total_at old) is)))
        (λ (not_last : v ≡ last → ⊥). path.second_pass.optimal.room v v_in (omega (arith, less, aug.others v not_first not_last)))
        (cases_eq v last))
        (cases_eq v aug.first);
    spare = λ v v_in more.
        ⊎_elim
        (λ (is : v ≡ aug.first). omega (arith, ints, first_level, ap (potential_of s) is))
        (λ (not_first : v ≡ aug.first → ⊥).
        ⊎_elim
        (λ (is : v ≡ last). absurd (omega (arith, more, aug.below, ap (total_at new) is, ap (λ x. get_or p.low.items x 0) is)))
        (λ (not_last : v ≡ last → ⊥). path.second_pass.optimal.spare v v_in (omega (arith, more, aug.others v not_first not_last)))
        (cases_eq v last))
        (cases_eq v aug.first);
  }

  -- a name that is below its low limit was so
  was_below : (v : ℕ) → total_at new v < get_or p.low.items v 0 → total_at old v < get_or p.low.items v 0
  was_below v under =
      ⊎_elim
      (λ (is : v ≡ aug.first). absurd (omega (arith, under, aug.above, ap (total_at new) is, ap (λ x. get_or p.low.items x 0) is)))
      (λ (not_first : v ≡ aug.first → ⊥).
      ⊎_elim
      (λ (is : v ≡ last). omega (arith, under, aug.entered, ap (total_at new) is, ap (total_at old) is))
      (λ (not_last : v ≡ last → ⊥). omega (arith, under, aug.others v not_first not_last))
      (cases_eq v last))
      (cases_eq v aug.first)

  pub second_pass_after : IsInSecondPass p new s
  second_pass_after = record {
    flow = flow;
    optimal = optimal_met;
    size = path.second_pass.size;
    placed = λ v v_in.
        ⊎_elim
        (λ (is : v ≡ aug.first). omega (arith, path.second_pass.placed v v_in, aug.left, ap (total_at new) is, ap (total_at old) is))
        (λ (not_first : v ≡ aug.first → ⊥).
        ⊎_elim
        (λ (is : v ≡ last). omega (arith, aug.below, ok.ordered v v_in, ap (total_at new) is, ap (λ x. get_or p.low.items x 0) is))
        (λ (not_last : v ≡ last → ⊥). omega (arith, path.second_pass.placed v v_in, aug.others v not_first not_last))
        (cases_eq v last))
        (cases_eq v aug.first);
    low = path.second_pass.low;
    high = path.second_pass.high;
    below = λ v v_in under. path.second_pass.below v v_in (was_below v under);
  }

  same_deficit : (v : ℕ) → v < names_of p → (v ≡ last → ⊥) → (get_or p.low.items v 0 - total_at new v) ≡ (get_or p.low.items v 0 - total_at old v)
  same_deficit v v_in not_last =
      ⊎_elim
      (λ (is : v ≡ aug.first). omega (arith, aug.above, aug.left, ap (total_at new) is, ap (total_at old) is, ap (λ x. get_or p.low.items x 0) is))
      (λ (not_first : v ≡ aug.first → ⊥). ap (λ t. get_or p.low.items v 0 - t) (aug.others v not_first not_last))
      (cases_eq v aug.first)

  pub less_deficit : deficit p new < deficit p old
  less_deficit =
      omega (
        arith,
        sum_one (names_of p) (λ v. get_or p.low.items v 0 - total_at old v) (λ v. get_or p.low.items v 0 - total_at new v) last path.within same_deficit,
        aug.entered,
        aug.some,
        aug.below,
        path.under,
      )
