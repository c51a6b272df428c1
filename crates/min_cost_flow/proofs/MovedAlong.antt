-- Points that move step by step.
use Rattle.std.proofs.Common.{◌≡◌, ◌≢◌, ◌==◌, ℕ, zero, suc, ◌+◌, ◌<◌, ◌≤◌, ⊎_elim, ℤ, List, [], ◌∷◌, length, drop, get_or, cond, refl, sym, ap, ◌∙◌, subst, add-one, arith}
use Rattle.std.proofs.Math.Seq.{drop-cons}
use Rattle.std.proofs.lemmas.Bool.{cases_eq, cond-true, cond-false, eq-eqb, false_from_ne_true, eqb-true}
use Rattle.std.specs.List.{All, AllPairs}
use Rattle.min_cost_flow.specs.Optimal.{AreLeast}
use Rattle.min_cost_flow.proofs.OptimalLaws.{least_after}
use Rattle.min_cost_flow.specs.declared.problem.FlowProblem.{FlowProblem}
use Rattle.min_cost_flow.specs.Flow.{IsFlow, IsPushed, flows_of, placed_at, total_at}
use Rattle.min_cost_flow.specs.declared.flow.Flow.{Flow}
use Rattle.min_cost_flow.specs.Paths.{IsStep, Leads, HasZeroReducedCost}
use Rattle.min_cost_flow.specs.declared.augmenting.Step.{Step}

pub any_default : (xs : List Step) (i : ℕ) (d e : Step) → i < length xs → get_or xs i d ≡ get_or xs i e
any_default [] i d e below = absurd (omega arith)
any_default (x ∷ xs) zero d e below = refl
any_default (x ∷ xs) (suc i) d e below = any_default xs i d e (omega arith)

pub step_here : (xs : List Step) (i : ℕ) (d : Step) → i < length xs → drop i xs ≡ get_or xs i d ∷ drop (i + 1) xs
step_here xs i d below = rw add-one (drop-cons xs i d below)

pub steps_end : (xs : List Step) (i : ℕ) → length xs ≤ i → drop i xs ≡ []
steps_end [] zero done = refl
steps_end [] (suc i) done = refl
steps_end (x ∷ xs) zero done = absurd (omega arith)
steps_end (x ∷ xs) (suc i) done = steps_end xs i (omega arith)

abbrev pub no_step : Step
no_step = record { group = 0; from = 0; to = 0 }

-- so many, where two names are one
abbrev pub at_name : ℕ → ℕ → ℕ → ℕ
at_name v w points = cond (v == w) points 0

pub same_name : (v w points : ℕ) → v ≡ w → at_name v w points ≡ points
same_name v w points is = cond-true {A = ℕ} (v == w) points 0 (eq-eqb v w is)

pub other_name : (v w points : ℕ) → (v ≡ w → ⊥) → at_name v w points ≡ 0
other_name v w points not = cond-false {A = ℕ} (v == w) points 0 (false_from_ne_true (v == w) (λ h. not (eqb-true v w h)))

-- what is left of the steps leads from the first name to another one, which is short of the points that the last one has more
pub record Reaches (old new : Flow) (points first last : ℕ) (steps : List Step) : Type 0 where
  pub to : ℕ
  pub leads : Leads first to steps
  pub totals : (v : ℕ) → total_at new v + at_name v to points ≡ total_at old v + at_name v last points

-- what holds before a step
pub record Moves (p : FlowProblem) (old new : Flow) (points : ℕ) (steps : List Step) (i : ℕ) : Type 0 where
  pub flow : IsFlow p new
  pub wide : (j : ℕ) (d : Step) → i ≤ j → j < length steps → points ≤ placed_at p new (get_or steps j d).group (get_or steps j d).from
  pub least : (potential : ℕ → ℤ) → All (HasZeroReducedCost p potential) steps → AreLeast (flows_of p old) potential → AreLeast (flows_of p new) potential
  pub reaches : (first last : ℕ) → Leads first last steps → Reaches old new points first last (drop i steps)

pub moves_none : (p : FlowProblem) (flow : Flow) (points : ℕ) (steps : List Step) → IsFlow p flow → All (λ (s : Step). points ≤ placed_at p flow s.group s.from) steps → Moves p flow flow points steps 0
moves_none p flow points steps is wide = record {
  flow = is;
  wide = λ j d low high. wide j d high;
  least = λ potential reduced_zero least. least;
  reaches = λ first last leads. record { to = last; leads = leads; totals = λ v. refl };
}

pub moves_all : (p : FlowProblem) (old new : Flow) (points : ℕ) (steps : List Step) (i first last : ℕ) → Moves p old new points steps i → drop i steps ≡ [] → Leads first last steps
    → (v : ℕ) → total_at new v + at_name v first points ≡ total_at old v + at_name v last points
moves_all p old new points steps i first last moves done leads v =
    let r = moves.reaches first last leads in
    let ends : first ≡ r.to = subst (λ xs. Leads first r.to xs) done r.leads in
    ap (λ w. total_at new v + at_name v w points) ends ∙ r.totals v

module _ (p : FlowProblem) (old flow new : Flow) (points : ℕ) (steps : List Step) (i : ℕ) (s : Step) (some : 0 < points)
    (each : All (IsStep p old) steps) (apart : AllPairs (λ s t. s.from ≢ t.from) steps) (below : i < length steps) (here : (d : Step) → s ≡ get_or steps i d) (rest_is : drop i steps ≡ s ∷ drop (i + 1) steps)
    (moves : Moves p old flow points steps i) (now : IsFlow p new) (pushed : IsPushed p flow new s.group s.from s.to points) where
  step : IsStep p old s
  step = subst (IsStep p old) (sym (here s)) (each i s below)

  still_wide : (j : ℕ) (d : Step) → i + 1 ≤ j → j < length steps → points ≤ placed_at p new (get_or steps j d).group (get_or steps j d).from
  still_wide j d low high =
      let t = get_or steps j d in
      let wide = moves.wide j d (omega (arith, low)) high in
      let not_from : t.from ≡ s.from → ⊥ = λ same. apart i j d (omega (arith, low)) high (ap (λ (x : Step). x.from) (sym (here d)) ∙ sym same) in
      ⊎_elim
      (λ (g_is : t.group ≡ s.group).
      ⊎_elim
      (λ (to_is : t.from ≡ s.to).
      omega (arith, pushed.pushes.entered, ap (λ g. placed_at p new g t.from) g_is, ap (placed_at p new s.group) to_is))
      (λ (not_to : t.from ≡ s.to → ⊥). omega (arith, wide, pushed.pushes.others t.group t.from (each j d high).from (λ g v. not_from v) (λ g v. not_to v)))
      (cases_eq t.from s.to))
      (λ (not_g : t.group ≡ s.group → ⊥). omega (arith, wide, pushed.pushes.others t.group t.from (each j d high).from (λ g v. not_g g) (λ g v. not_g g)))
      (cases_eq t.group s.group)

  still_reaches : (first last : ℕ) → Leads first last steps → Reaches old new points first last (drop (i + 1) steps)
  still_reaches first last leads =
      let r = moves.reaches first last leads in
      let ahead : Leads first r.to (s ∷ drop (i + 1) steps) = subst (λ xs. Leads first r.to xs) rest_is r.leads in
      let to_is : s.to ≡ r.to = ahead.0 in
      record {
        to = s.from;
        leads = ahead.1;
        totals = λ v.
            let before = r.totals v in
            let moved : at_name v r.to points ≡ at_name v s.to points = ap (λ w. at_name v w points) (sym to_is) in
            ⊎_elim
            (λ (from_is : v ≡ s.from).
            omega (arith, before, moved, same_name v s.from points from_is, other_name v s.to points (λ h. step.apart (sym from_is ∙ h)), pushed.totals.left, ap (total_at new) from_is, ap (total_at flow) from_is))
            (λ (not_from : v ≡ s.from → ⊥).
            ⊎_elim
            (λ (is : v ≡ s.to).
            omega (arith, before, moved, other_name v s.from points not_from, same_name v s.to points is, pushed.totals.entered, ap (total_at new) is, ap (total_at flow) is))
            (λ (not_to : v ≡ s.to → ⊥).
            omega (arith, before, moved, other_name v s.from points not_from, other_name v s.to points not_to, pushed.totals.others v not_from not_to))
            (cases_eq v s.to))
            (cases_eq v s.from);
      }

  pub moves_more : Moves p old new points steps (i + 1)
  moves_more = record {
    flow = now;
    wide = still_wide;
    least = λ potential reduced_zero least.
        least_after (flows_of p flow) (flows_of p new) potential s.group s.from s.to points (moves.least potential reduced_zero least) pushed.pushes step.group step.from step.to step.apart some (subst (HasZeroReducedCost p potential) (sym (here s)) (reduced_zero i s below));
    reaches = still_reaches;
  }
