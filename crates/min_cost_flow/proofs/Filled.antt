-- An augmentation to a name with room keeps the flow optimal; a search that fails leaves full names that no point leaves.
use Rattle.std.proofs.Common.{◌≡◌, ℕ, ◌+◌, ◌*◌, ◌<◌, ◌≤◌, inl, inr, ⊎_elim, ℤ, pos, neg_ℤ, ◌≤ℤ◌, true, Bool, List, get_or, Option, Some, refl, sym, ap, ◌∙◌, subst, arith}
use Rattle.std.proofs.Math.Nat.{mul-le-mul_right}
use Rattle.std.proofs.lemmas.Bool.{cases_eq, cases_lt}
use Rattle.std.proofs.lemmas.Int.{ints}
use Rattle.std.specs.List.{slice_get}
use Rattle.min_cost_flow.specs.Paths.{IsAugmented}
use Rattle.min_cost_flow.specs.Optimal.{AreLeast, IsOptimal}
use Rattle.min_cost_flow.specs.Problem.{IsFlowProblem, may_take, names_of}
use Rattle.min_cost_flow.specs.declared.problem.FlowProblem.{FlowProblem}
use Rattle.min_cost_flow.specs.Flow.{IsFlow, flows_of, groups_of, placed_at, total_at}
use Rattle.min_cost_flow.specs.declared.flow.Flow.{Flow}
use Rattle.min_cost_flow.proofs.OptimalLaws.{optimal_from_reduced}
use Rattle.min_cost_flow.specs.Found.{HasFound, HasSize, IsStuck, predecessor_of, potential_of, rank_of}
use Rattle.min_cost_flow.specs.Network.{IsShort, arc_at, max_cost}
use Rattle.min_cost_flow.specs.Searched.{IsTight}
use Rattle.min_cost_flow.specs.declared.arc.Arc.{Arc}
use Rattle.min_cost_flow.specs.declared.search.Search.{Search}
use Rattle.min_cost_flow.specs.Placing.{IsInFirstPass, IsStuckAbove, IsPathToRoom, StayPlaced, WantsRoot, reach}

-- the bounds of potentials after a search whose node is the root
pub near_after : (n : ℕ) (arc : ℕ → ℕ → Option Arc) (wanted : List Bool) (source : ℕ) (pot pot' : ℕ → ℤ) (predecessor rank : ℕ → ℕ) (k : ℕ) → n ≤ 65 → HasFound n arc wanted source pot pot' predecessor rank k → pot k ≡ pos 0
    → ((v : ℕ) → v < n → neg_ℤ (pos reach) ≤ℤ pot v) → ((v : ℕ) → v < n → pot v ≤ℤ pos 0) → (v : ℕ) → v < n → (neg_ℤ (pos reach) ≤ℤ pot' v) × (pot' v ≤ℤ pos 0)
near_after n arc wanted source pot pot' predecessor rank k few found zero low high v v_in =
    let most : n * max_cost ≤ 65 * max_cost = mul-le-mul_right max_cost few in
    ⊎_elim
    (λ (settled : rank v < n). (omega (arith, ints, zero, most, found.low v v_in settled), omega (arith, ints, found.fallen v v_in settled, high v v_in)))
    (λ (not : n ≤ rank v). (omega (arith, ints, found.kept v v_in not, low v v_in), omega (arith, ints, found.kept v v_in not, high v v_in)))
    (cases_lt (rank v) n)

-- points that came to a name with room, where the root has the same potential, and left one that is still not below its limit
pub optimal_after : (p : FlowProblem) (ok : IsFlowProblem p) (old new : Flow) (potential : ℕ → ℤ) (rank : ℕ → ℕ) (source last : ℕ) → IsOptimal (flows_of p old) potential → AreLeast (flows_of p new) potential
    → IsAugmented p old new potential rank p.high.items source last → potential last ≡ potential (names_of p) → IsOptimal (flows_of p new) potential
optimal_after p ok old new potential rank source last optimal least aug level = record {
  least = least;
  room = λ v v_in less.
      ⊎_elim
      (λ (is : v ≡ aug.first). absurd (omega (arith, less, aug.above, ap (total_at new) is, ap (λ x. get_or p.high.items x 0) is)))
      (λ (not_first : v ≡ aug.first → ⊥).
      ⊎_elim
      (λ (is : v ≡ last). omega (arith, ints, level, ap potential is))
      (λ (not_last : v ≡ last → ⊥). optimal.room v v_in (omega (arith, less, aug.others v not_first not_last)))
      (cases_eq v last))
      (cases_eq v aug.first);
  spare = λ v v_in more.
      ⊎_elim
      (λ (is : v ≡ aug.first). optimal.spare v v_in (omega (arith, more, aug.left, ap (total_at new) is, ap (total_at old) is)))
      (λ (not_first : v ≡ aug.first → ⊥).
      ⊎_elim
      (λ (is : v ≡ last). omega (arith, ints, level, ap potential is))
      (λ (not_last : v ≡ last → ⊥). optimal.spare v v_in (omega (arith, more, aug.others v not_first not_last)))
      (cases_eq v last))
      (cases_eq v aug.first);
}

-- other names within their high limits stay so
pub placed_after : (p : FlowProblem) (old new : Flow) (potential : ℕ → ℤ) (rank : ℕ → ℕ) (source last : ℕ) → IsAugmented p old new potential rank p.high.items source last → (v : ℕ) → total_at old v ≤ get_or p.high.items v 0 → total_at new v ≤ get_or p.high.items v 0
placed_after p old new potential rank source last aug v within =
    ⊎_elim
    (λ (is : v ≡ aug.first). omega (arith, within, aug.left, ap (total_at new) is, ap (total_at old) is))
    (λ (not_first : v ≡ aug.first → ⊥).
    ⊎_elim
    (λ (is : v ≡ last). omega (arith, aug.below, ap (total_at new) is, ap (λ x. get_or p.high.items x 0) is))
    (λ (not_last : v ≡ last → ⊥). omega (arith, within, aug.others v not_first not_last))
    (cases_eq v last))
    (cases_eq v aug.first)

module _ (p : FlowProblem) (f : Flow) (flow : IsFlow p f) (wanted : List Bool) (source : ℕ) (pot pot' : ℕ → ℤ) (rank : ℕ → ℕ) (wants : slice_get wanted (names_of p) ≡ Some true)
    (stuck : IsStuck (names_of p + 1) (arc_at f.arcs.items (names_of p + 1)) wanted source pot pot' rank) where
  -- a settled name has no room, since the root would be settled
  pub stuck_full : (v : ℕ) → v < names_of p → rank v < names_of p + 1 → get_or p.high.items v 0 ≤ total_at f v
  stuck_full v v_in settled =
      ⊎_elim
      (λ (room : total_at f v < get_or p.high.items v 0).
      let a = flow.tables.residual.has_room v v_in room in
      absurd (stuck.unwanted (names_of p) (omega arith) (stuck.closed v (names_of p) a.0 (omega (arith, v_in)) (omega arith) settled a.1) wants))
      (λ (full : get_or p.high.items v 0 ≤ total_at f v). full)
      (cases_lt (total_at f v) (get_or p.high.items v 0))

  pub stuck_closed : (g v w : ℕ) → g < groups_of p → v < names_of p → w < names_of p → 0 < placed_at p f g v → rank v < names_of p + 1 → may_take p.groups.items p.costs.items (names_of p) g w ≡ true → rank w < names_of p + 1
  stuck_closed g v w g_in v_in w_in some settled may =
      let a = flow.tables.residual.least g v w g_in v_in w_in some may in
      stuck.closed v w a.0 (omega (arith, v_in)) (omega (arith, w_in)) settled a.1

-- what is known when the root is found
module _ (p : FlowProblem) (f : Flow) (flow : IsFlow p f) (wanted : List Bool) (source : ℕ) (source_in : source < names_of p) (pot pot' : ℕ → ℤ) (predecessor rank : ℕ → ℕ)
    (found : HasFound (names_of p + 1) (arc_at f.arcs.items (names_of p + 1)) wanted source pot pot' predecessor rank (names_of p)) where
  tight_root : IsTight (names_of p + 1) (arc_at f.arcs.items (names_of p + 1)) pot' predecessor rank (names_of p)
  tight_root =
      ⊎_elim
      (λ (is : names_of p ≡ source). absurd (omega (arith, is, source_in)))
      (λ (t : IsTight (names_of p + 1) (arc_at f.arcs.items (names_of p + 1)) pot' predecessor rank (names_of p)). t)
      (found.tight (names_of p) (omega arith) (inr refl))

  -- the node before the root is a settled name
  pub last_in : predecessor (names_of p) < names_of p
  last_in =
      let t = tight_root in
      ⊎_elim
      (λ (is : predecessor (names_of p) ≡ names_of p). absurd (omega (arith, t.before, ap rank is)))
      (λ (not : predecessor (names_of p) ≡ names_of p → ⊥). omega (arith, t.within, not))
      (cases_eq (predecessor (names_of p)) (names_of p))

  pub last_settled : rank (predecessor (names_of p)) < names_of p + 1
  last_settled = tight_root.settled

  last_room : (total_at f (predecessor (names_of p)) < get_or p.high.items (predecessor (names_of p)) 0) × (tight_root.along.cost ≡ pos 0)
  last_room = flow.tables.residual.room (predecessor (names_of p)) tight_root.along last_in tight_root.there

  pub last_below : total_at f (predecessor (names_of p)) < get_or p.high.items (predecessor (names_of p)) 0
  last_below = last_room.0

  pub last_level : pot' (predecessor (names_of p)) ≡ pot' (names_of p)
  last_level = omega (arith, ints, tight_root.zero, last_room.1)

  pub root_unsettled : rank (names_of p) < names_of p + 1 → ⊥
  root_unsettled settled = omega (arith, settled, found.unsettled)

-- the potentials of a search that found the root are those of a flow in the first pass
pub path_of : (p : FlowProblem) (ok : IsFlowProblem p) (f : Flow) (s s' : Search) (wanted : List Bool) (source last : ℕ) → IsInFirstPass p f s → source < names_of p → HasSize (names_of p + 1) s'
    → HasFound (names_of p + 1) (arc_at f.arcs.items (names_of p + 1)) wanted source (potential_of s) (potential_of s') (predecessor_of s') (rank_of s') (names_of p) → last ≡ predecessor_of s' (names_of p) → IsPathToRoom p f s' source last
path_of p ok f s s' wanted source last first_pass source_in size found last_is =
    let n : ℕ = names_of p + 1 in
    let few : n ≤ 65 = omega (arith, ok.names) in
    let near = near_after n (arc_at f.arcs.items n) wanted source (potential_of s) (potential_of s') (predecessor_of s') (rank_of s') (names_of p) few found first_pass.root first_pass.low first_pass.high in
    record {
      first_pass = record {
        flow = first_pass.flow;
        optimal = optimal_from_reduced (flows_of p f) (arc_at f.arcs.items n) (potential_of s') first_pass.flow.tables.residual found.reduced;
        size = size;
        root = found.kept (names_of p) (omega arith) found.unsettled ∙ first_pass.root;
        low = λ v v_in. (near v v_in).0;
        high = λ v v_in. (near v v_in).1;
      };
      within = omega (arith, last_is, last_in p f first_pass.flow wanted source source_in (potential_of s) (potential_of s') (predecessor_of s') (rank_of s') found);
      room = subst (λ v. total_at f v < get_or p.high.items v 0) (sym last_is) (last_below p f first_pass.flow wanted source source_in (potential_of s) (potential_of s') (predecessor_of s') (rank_of s') found);
      level = ap (potential_of s') last_is ∙ last_level p f first_pass.flow wanted source source_in (potential_of s) (potential_of s') (predecessor_of s') (rank_of s') found;
      unsettled = λ settled. root_unsettled p f first_pass.flow wanted source source_in (potential_of s) (potential_of s') (predecessor_of s') (rank_of s') found settled;
      traced = λ v v_in on.
          ⊎_elim
          (λ (settled : rank_of s' v < n). found.tight v v_in (inl settled))
          (λ (is : v ≡ last). found.tight v v_in (inl (omega (arith, ap (rank_of s') (is ∙ last_is), last_settled p f first_pass.flow wanted source source_in (potential_of s) (potential_of s') (predecessor_of s') (rank_of s') found))))
          on;
    }

pub stuck_of : (p : FlowProblem) (f : Flow) (s s' : Search) (wanted : List Bool) (source : ℕ) → IsInFirstPass p f s → WantsRoot p wanted → source < names_of p → get_or p.high.items source 0 < total_at f source → HasSize (names_of p + 1) s'
    → IsStuck (names_of p + 1) (arc_at f.arcs.items (names_of p + 1)) wanted source (potential_of s) (potential_of s') (rank_of s') → IsStuckAbove p f s'
stuck_of p f s s' wanted source first_pass wants source_in over size stuck = record {
  size = size;
  above = source;
  within = source_in;
  settled = stuck.source_in;
  over = over;
  full = stuck_full p f first_pass.flow wanted source (potential_of s) (potential_of s') (rank_of s') wants.root stuck;
  closed = stuck_closed p f first_pass.flow wanted source (potential_of s) (potential_of s') (rank_of s') wants.root stuck;
}

-- the flow is in the first pass after an augmentation
pub filled : (p : FlowProblem) (ok : IsFlowProblem p) (old new : Flow) (s : Search) (source last : ℕ) → IsPathToRoom p old s source last → IsFlow p new → AreLeast (flows_of p new) (potential_of s)
    → IsAugmented p old new (potential_of s) (rank_of s) p.high.items source last → IsInFirstPass p new s
filled p ok old new s source last path flow least aug = record {
  flow = flow;
  optimal = optimal_after p ok old new (potential_of s) (rank_of s) source last path.first_pass.optimal least aug path.level;
  size = path.first_pass.size;
  root = path.first_pass.root;
  low = path.first_pass.low;
  high = path.first_pass.high;
}

pub fewer_after : (p : FlowProblem) (old new : Flow) (s : Search) (source last : ℕ) → IsPathToRoom p old s source last → IsAugmented p old new (potential_of s) (rank_of s) p.high.items source last → total_at new source < total_at old source
fewer_after p old new s source last path aug =
    ⊎_elim
    (λ (is : aug.first ≡ source). omega (arith, aug.left, aug.some, ap (total_at new) is, ap (total_at old) is))
    (λ (settled : rank_of s (names_of p) < names_of p + 1). absurd (path.unsettled settled))
    aug.settled

-- a potential is short
pub short_potential : (z : ℤ) → neg_ℤ (pos reach) ≤ℤ z → z ≤ℤ pos 0 → IsShort z
short_potential z low high = record { low = omega (arith, ints, low); high = omega (arith, ints, high) }

-- what holds before each turn
pub record Emptying (p : FlowProblem) (start f : Flow) (s : Search) : Type 0 where
  pub first_pass : IsInFirstPass p f s
  pub placed : StayPlaced p start f
