-- A whole search: how it begins, and what it leaves.
use Rattle.std.proofs.Common.{◌≡◌, ◌≢◌, ℕ, ◌<◌, ◌≤◌, inl, ⊎_elim, ℤ, pos, Bool, true, List, Option, Some, None, refl, sym, ap, ◌∙◌, subst, arith}
use Rattle.std.proofs.lemmas.Bool.{cases_eq, cases_lt}
use Rattle.std.proofs.lemmas.Int.{ints}
use Rattle.std.proofs.lemmas.Option.{same_Some}
use Rattle.std.specs.List.{slice_get}
use Rattle.min_cost_flow.specs.Found.{HasFound, IsStuck}
use Rattle.min_cost_flow.specs.Network.{HasNonNegativeReducedCosts, max_cost}
use Rattle.min_cost_flow.specs.Searched.{IsSearched, IsNearest, IsExhausted, Lowers}
use Rattle.min_cost_flow.specs.declared.arc.Arc.{Arc}
use Rattle.min_cost_flow.proofs.Settling.{still_reduced, tight}

pub begun : (nodes : ℕ) (arc : ℕ → ℕ → Option Arc) (potential : ℕ → ℤ) (source : ℕ) (distance : ℕ → Option ℤ) (predecessor rank : ℕ → ℕ) → source < nodes
    → ((v : ℕ) → v < nodes → rank v ≡ nodes) → ((v : ℕ) → v < nodes → v ≢ source → distance v ≡ None) → distance source ≡ Some (pos 0) → IsSearched nodes arc potential source max_cost 0 distance predecessor rank
begun nodes arc potential source distance predecessor rank source_in unsettled unreached start =
    let zero : (v : ℕ) (b : ℤ) → v < nodes → distance v ≡ Some b → (v ≡ source) × (b ≡ pos 0) = λ v b within is.
    ⊎_elim
    (λ (here : v ≡ source). (here, same_Some b (pos 0) (sym is ∙ (ap distance here ∙ start))))
    (λ (not : v ≡ source → ⊥). let clash : Some b ≡ None = sym is ∙ unreached v within not in absurd (none_of b clash))
    (cases_eq v source)
    in
    record {
      start = (pos 0, start);
      few = λ v within settled. absurd (omega (arith, unsettled v within));
      known = λ v within settled. absurd (omega (arith, unsettled v within));
      closed = λ u v a r u_in v_in settled is there. absurd (omega (arith, unsettled u u_in));
      order = λ u v a b u_in v_in settled un u_is v_is. absurd (omega (arith, unsettled u u_in));
      tree = λ v b within is. inl (zero v b within is).0;
      low = λ v b within is. omega (arith, ints, (zero v b within is).1);
      high = λ v b within is. omega (arith, ints, (zero v b within is).1);
    }
  where
    none_of : (b : ℤ) → Some b ≡ None → ⊥
    none_of b clash = cc

pub stuck : (nodes : ℕ) (arc : ℕ → ℕ → Option Arc) (wanted : List Bool) (source count : ℕ) (potential : ℕ → ℤ) (distance : ℕ → Option ℤ) (predecessor rank : ℕ → ℕ) → source < nodes
    → IsSearched nodes arc potential source max_cost count distance predecessor rank → IsExhausted nodes distance rank → ((v : ℕ) → v < nodes → rank v < nodes → slice_get wanted v ≡ Some true → ⊥)
    → IsStuck nodes arc wanted source potential potential rank
stuck nodes arc wanted source count potential distance predecessor rank source_in search none unwanted =
    let settled : (v : ℕ) (a : ℤ) → v < nodes → distance v ≡ Some a → rank v < nodes = λ v a within is.
    ⊎_elim (λ (s : rank v < nodes). s) (λ (un : nodes ≤ rank v). absurd (none v a within un is)) (cases_lt (rank v) nodes)
    in
    record {
      same = λ v. refl;
      source_in = settled source search.start.0 source_in search.start.1;
      closed = λ u v a u_in v_in u_settled there.
          let known = search.known u u_in u_settled in
          let next = search.closed u v known.0 a u_in v_in u_settled known.1 there in
          settled v next.0 v_in next.1;
      unwanted = unwanted;
    }

module _ (nodes : ℕ) (arc : ℕ → ℕ → Option Arc) (wanted : List Bool) (source : ℕ) (potential potential' : ℕ → ℤ) (distance : ℕ → Option ℤ) (predecessor rank : ℕ → ℕ) (node : ℕ) (node_distance shown : ℤ)
    (reduced : HasNonNegativeReducedCosts nodes arc potential) (search : IsSearched nodes arc potential source max_cost nodes distance predecessor rank)
    (near : IsNearest nodes potential distance rank node node_distance) (lowers : Lowers nodes potential potential' distance rank node shown) (same : shown ≡ node_distance) where
  lowered : Lowers nodes potential potential' distance rank node node_distance
  lowered = subst (λ z. Lowers nodes potential potential' distance rank node z) same lowers

  pub found : slice_get wanted node ≡ Some true → ((v : ℕ) → v < nodes → rank v < nodes → slice_get wanted v ≡ Some true → ⊥) → HasFound nodes arc wanted source potential potential' predecessor rank node
  found is_wanted unwanted = record {
    within = near.within;
    is_wanted = is_wanted;
    unsettled = near.unsettled;
    unwanted = unwanted;
    reduced = still_reduced nodes arc potential potential' source max_cost nodes distance predecessor rank node node_distance reduced search near lowered;
    tight = tight nodes arc potential potential' source max_cost nodes distance predecessor rank node node_distance reduced search near lowered;
    kept = lowered.others;
    fallen = λ v within settled.
        let known = search.known v within settled in
        omega (arith, ints, lowered.settled v known.0 within settled known.1, search.order v node known.0 node_distance within near.within settled near.unsettled known.1 near.reached);
    low = λ v within settled.
        let known = search.known v within settled in
        omega (arith, ints, lowered.settled v known.0 within settled known.1, search.low v known.0 within known.1, search.high node node_distance near.within near.reached);
    high = λ v within settled.
        let known = search.known v within settled in
        omega (arith, ints, lowered.settled v known.0 within settled known.1, search.high v known.0 within known.1, search.low node node_distance near.within near.reached);
  }
