-- Each step is as wide as the least so far.
use Rattle.std.proofs.Common.{◌≡◌, ℕ, ◌+◌, ◌*◌, ◌<◌, ◌≤◌, ◌⊎◌, inl, inr, List, length, get_or, min, ⊎_elim, rules, ap, ◌∙◌, arith}
use Rattle.std.proofs.lemmas.Bool.{cases_eq, cases_lt}
use Rattle.std.specs.List.{Any}
use Rattle.min_cost_flow.specs.Problem.{names_of}
use Rattle.min_cost_flow.specs.declared.problem.FlowProblem.{FlowProblem}
use Rattle.min_cost_flow.specs.Flow.{placed_at}
use Rattle.min_cost_flow.specs.declared.flow.Flow.{Flow}
use Rattle.min_cost_flow.specs.declared.augmenting.Step.{Step}
use Rattle.min_cost_flow.proofs.MovedAlong.{any_default, no_step}
use Rattle.min_cost_flow.proofs.augmenting.bottleneck.Goals as goal

-- the least of what was least so far and of what the next step takes
narrower : (p : FlowProblem) (f : Flow) (steps : List Step) (i most before after there : ℕ)
    → (before ≡ most) ⊎ ((j : ℕ) × (j < i) × (before ≡ placed_at p f (get_or steps j no_step).group (get_or steps j no_step).from))
    → after ≡ min before there → there ≡ placed_at p f (get_or steps i no_step).group (get_or steps i no_step).from
    → (after ≡ most) ⊎ ((j : ℕ) × (j < i + 1) × (after ≡ placed_at p f (get_or steps j no_step).group (get_or steps j no_step).from))
narrower p f steps i most before after there narrow least is =
    ⊎_elim
    (λ (less : there < before). inr (i, omega arith, omega (arith, least, less, is)))
    (λ (not : before ≤ there).
    ⊎_elim
    (λ (whole : before ≡ most). inl (omega (arith, least, not, whole)))
    (λ (at : (j : ℕ) × (j < i) × (before ≡ placed_at p f (get_or steps j no_step).group (get_or steps j no_step).from)). inr (at.0, omega (arith, at.1), omega (arith, least, not, at.2)))
    narrow)
    (cases_lt there before)

narrow_end : (p : FlowProblem) (f : Flow) (steps : List Step) (i most points : ℕ)
    → (points ≡ most) ⊎ ((j : ℕ) × (j < i) × (points ≡ placed_at p f (get_or steps j no_step).group (get_or steps j no_step).from)) → i ≤ length steps
    → (points ≡ most) ⊎ Any (λ s. points ≡ placed_at p f s.group s.from) steps
narrow_end p f steps i most points narrow done =
    ⊎_elim
    (λ (whole : points ≡ most). inl whole)
    (λ (at : (j : ℕ) × (j < i) × (points ≡ placed_at p f (get_or steps j no_step).group (get_or steps j no_step).from)).
    let within : at.0 < length steps = omega (arith, at.1, done) in
    inr (at.0, get_or steps at.0 no_step, within, any_default steps at.0 (get_or steps at.0 no_step) no_step within, at.2))
    narrow

pub loop-step-preserved : goal.loop-step-preserved
loop-step-preserved c =
    let steps = c.args.steps.now in
    let i = c.loop-step.step-index in
    let p = c.args.problem.now in
    let f = c.args.flow.now in
    let s = get_or steps i no_step in
    let names : c.len-names.result ≡ names_of p = search rules in
    let least = c.min-points.ensures in
    let there : c.placed-there.result ≡ placed_at p f s.group s.from = c.placed-there.ensures ∙ (ap (λ xs. get_or xs (s.group * c.len-names.result + s.from) 0) c.as_slice.ensures.value ∙ ap (λ n. get_or f.placed.items (s.group * n + s.from) 0) names) in
    record {
      most = omega (arith, least, c.loop-step.invariant.most);
      wide = λ j d below.
          ⊎_elim
          (λ (is : j ≡ i).
          let here = any_default steps i no_step d c.loop-step-test.true in
          omega (arith, least, there, ap (λ (t : Step). placed_at p f t.group t.from) here, ap (λ k. placed_at p f (get_or steps k d).group (get_or steps k d).from) is))
          (λ (not : j ≡ i → ⊥). omega (arith, least, c.loop-step.invariant.wide j d (omega (arith, below, not))))
          (cases_eq j i);
      narrow = narrower p f steps i c.args.most c.loop-step.points c.min-points.result c.placed-there.result c.loop-step.invariant.narrow least there;
      some = λ any. omega (arith, least, there, c.loop-step.invariant.some any, (c.requires.steps i no_step c.loop-step-test.true).there);
    }

pub returns-clause-bottleneck : goal.returns-clause-bottleneck
returns-clause-bottleneck c =
    let steps = c.args.steps.now in
    let known = c.loop-step.invariant in
    record {
      within = known.most;
      wide = λ k d below. known.wide k d (omega arith);
      narrow = narrow_end c.args.problem.now c.args.flow.now steps c.loop-step.step-index c.args.most c.loop-step.points known.narrow (omega arith);
    }
