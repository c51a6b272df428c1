-- Following a path back.
use Rattle.std.proofs.Common.{◌≡◌, ◌≢◌, ℕ, ◌+◌, ◌<◌, ◌≤◌, ◌⊎◌, inl, inr, ⊎_elim, ℤ, ◌+ℤ◌, List, [], ◌∷◌, ◌++◌, Option, Some, refl, sym, ap, ◌∙◌, subst, arith}
use Rattle.std.proofs.lemmas.Int.{ints}
use Rattle.std.proofs.lemmas.List.Elements.{All-nil, All-push}
use Rattle.std.proofs.lemmas.List.Quantifiers.{all_pairs_push}
use Rattle.std.specs.List.{All, AllPairs}
use Rattle.min_cost_flow.specs.Problem.{names_of}
use Rattle.min_cost_flow.specs.declared.problem.FlowProblem.{FlowProblem}
use Rattle.min_cost_flow.specs.Flow.{IsFlow, flows_of}
use Rattle.min_cost_flow.specs.declared.flow.Flow.{Flow}
use Rattle.min_cost_flow.specs.Network.{arc_at}
use Rattle.min_cost_flow.specs.Searched.{IsTight}
use Rattle.min_cost_flow.specs.declared.arc.Arc.{Arc}
use Rattle.min_cost_flow.specs.Paths.{IsStep, Leads, HasZeroReducedCost, IsPath, AreTraced, IsTraced}
use Rattle.min_cost_flow.specs.declared.augmenting.Path.{Path}
use Rattle.min_cost_flow.specs.declared.augmenting.Step.{Step}

leads_more : (first next last : ℕ) (steps : List Step) (s : Step) → Leads next last steps → s.to ≡ next → s.from ≡ first → Leads first last (steps ++ s ∷ [])
leads_more first next last [] s leads to from = (to ∙ leads, sym from)
leads_more first next last (t ∷ steps) s leads to from = (leads.0, leads_more first next t.from steps s leads.1 to from)

-- the path from `to` on
pub record Traces (p : FlowProblem) (f : Flow) (potential : ℕ → ℤ) (rank : ℕ → ℕ) (last to : ℕ) (steps : List Step) : Type 0 where
  pub within : to < names_of p
  pub on : (rank to < names_of p + 1) ⊎ (to ≡ last)
  pub leads : Leads to last steps
  pub each : All (IsStep p f) steps
  pub reduced_zero : All (HasZeroReducedCost p potential) steps
  pub apart : AllPairs (λ s t. s.from ≢ t.from) steps
  pub later : All (λ s. rank to ≤ rank s.from) steps

pub traces_none : (p : FlowProblem) (f : Flow) (potential : ℕ → ℤ) (rank : ℕ → ℕ) (last : ℕ) → last < names_of p → Traces p f potential rank last last []
traces_none p f potential rank last within = record {
  within = within;
  on = inr refl;
  leads = refl;
  each = All-nil (IsStep p f);
  reduced_zero = All-nil (HasZeroReducedCost p potential);
  apart = λ i j d low high. absurd (omega (arith, high));
  later = All-nil (λ (s : Step). rank last ≤ rank s.from);
}

module _ (p : FlowProblem) (f : Flow) (potential : ℕ → ℤ) (predecessor rank : ℕ → ℕ) (source last to : ℕ) (steps : List Step) (flow : IsFlow p f)
    (traced : AreTraced (names_of p) (arc_at f.arcs.items (names_of p + 1)) potential predecessor rank source last) (so_far : Traces p f potential rank last to steps) where
  arc : ℕ → ℕ → Option Arc
  arc = arc_at f.arcs.items (names_of p + 1)

  -- the name is the source, or it comes after another node
  pub tight_here : to ≢ source → IsTight (names_of p + 1) (arc_at f.arcs.items (names_of p + 1)) potential predecessor rank to
  tight_here not = ⊎_elim (λ (is : to ≡ source). absurd (not is)) (λ (t : IsTight (names_of p + 1) (arc_at f.arcs.items (names_of p + 1)) potential predecessor rank to). t) (traced to (omega (arith, so_far.within)) so_far.on)

  pub before_within : to ≢ source → predecessor to ≢ names_of p → predecessor to < names_of p
  before_within not_source not_root = let t = tight_here not_source in omega (arith, t.within, not_root)

  pub rank_falls : to ≢ source → rank (predecessor to) < rank to
  rank_falls not = (tight_here not).before

  pub traces_more : (s : Step) → s.from ≡ predecessor to → s.to ≡ to → to ≢ source → predecessor to ≢ names_of p → ((a : Arc) → arc_at f.arcs.items (names_of p + 1) s.from s.to ≡ Some a → s.group ≡ a.group)
      → Traces p f potential rank last s.from (steps ++ s ∷ [])
  traces_more s from_is to_is not_source not_root group_is =
      let t = tight_here not_source in
      let from_in : s.from < names_of p = omega (arith, from_is, before_within not_source not_root) in
      let to_in : s.to < names_of p = omega (arith, to_is, so_far.within) in
      let there : arc_at f.arcs.items (names_of p + 1) s.from s.to ≡ Some t.along = ap (λ v. arc_at f.arcs.items (names_of p + 1) v s.to) from_is ∙ (ap (arc_at f.arcs.items (names_of p + 1) (predecessor to)) to_is ∙ t.there) in
      let group : s.group ≡ t.along.group = group_is t.along there in
      let r = flow.tables.residual in
      let zero : potential s.to ≡ (potential s.from +ℤ t.along.cost) = ap potential to_is ∙ (t.zero ∙ ap (λ v. potential v +ℤ t.along.cost) (sym from_is)) in
      let falls : rank s.from < rank to = omega (arith, ap rank from_is, t.before) in
      let F = flows_of p f in
      record {
        within = from_in;
        on = inl (omega (arith, ap rank from_is, t.settled));
        leads = leads_more s.from to last steps s so_far.leads to_is refl;
        each = All-push (IsStep p f) steps s so_far.each (record {
          group = omega (arith, group, r.group s.from s.to t.along from_in to_in there);
          from = from_in;
          to = to_in;
          apart = λ same. omega (arith, falls, ap rank (same ∙ to_is));
          allowed = ap (λ g. F.allowed g s.to) group ∙ r.allowed s.from s.to t.along from_in to_in there;
          there = omega (arith, ap (λ g. F.flow g s.from) group, r.there s.from s.to t.along from_in to_in there);
        });
        reduced_zero = All-push (HasZeroReducedCost p potential) steps s so_far.reduced_zero (omega (arith, ints, zero, r.cost s.from s.to t.along from_in to_in there, ap (λ g. F.cost g s.from) group, ap (λ g. F.cost g s.to) group));
        apart = all_pairs_push (λ (a b : Step). a.from ≢ b.from) steps s so_far.apart (λ k d below same. omega (arith, falls, so_far.later k d below, ap rank same));
        later = All-push (λ (a : Step). rank s.from ≤ rank a.from) steps s (λ k d below. omega (arith, falls, so_far.later k d below)) (omega arith);
      }

  -- the first name
  pub traced_whole : (path : Path) → path.first ≡ to → path.steps.items ≡ steps → (to ≡ source) ⊎ (predecessor to ≡ names_of p) → IsTraced p f potential rank source last path
  traced_whole path first_is steps_are ends =
      let path_is : IsPath p f potential to last steps = record { begins = so_far.within; leads = so_far.leads; each = so_far.each; reduced_zero = so_far.reduced_zero; apart = so_far.apart } in
      let root = names_of p in
      record {
        steps = subst (λ xs. IsPath p f potential path.first last xs) (sym steps_are) (subst (λ v. IsPath p f potential v last steps) (sym first_is) path_is);
        start =
            ⊎_elim
            (λ (is : to ≡ source). inl (first_is ∙ is))
            (λ (next : predecessor to ≡ root).
            ⊎_elim
            (λ (is : to ≡ source). inl (first_is ∙ is))
            (λ (t : IsTight (root + 1) (arc_at f.arcs.items (root + 1)) potential predecessor rank to).
            inr (
              t.along,
              ap (arc_at f.arcs.items (root + 1) root) first_is ∙ (ap (λ v. arc_at f.arcs.items (root + 1) v to) (sym next) ∙ t.there),
              ap potential first_is ∙ (t.zero ∙ ap (λ v. potential v +ℤ t.along.cost) next),
            ))
            (traced to (omega (arith, so_far.within)) so_far.on))
            ends;
        settled =
            ⊎_elim
            (λ (is : to ≡ source). inl (first_is ∙ is))
            (λ (next : predecessor to ≡ root).
            ⊎_elim
            (λ (is : to ≡ source). inl (first_is ∙ is))
            (λ (t : IsTight (root + 1) (arc_at f.arcs.items (root + 1)) potential predecessor rank to). inr (omega (arith, t.settled, ap rank next)))
            (traced to (omega (arith, so_far.within)) so_far.on))
            ends;
      }
