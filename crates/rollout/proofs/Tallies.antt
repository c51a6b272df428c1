-- What is asked of a tally is asked of a book with its inputs, and a plan is one for all inputs of which so many fall on each point.
use Rattle.std.proofs.Common.{◌≡◌, ◌==◌, ◌&&◌, ◌*◌, ◌<◌, ℕ, ℤ, pos, ◌+ℤ◌, ◌≤ℤ◌, List, [], Bool, true, false, cond, unwrap_or, Result, Ok, Err, refl, sym, ap, ◌∙◌, subst, arith}
use Rattle.std.specs.List.{range_with_len}
use Rattle.std.specs.Map.{keys_of, lookup}
use Rattle.std.proofs.lemmas.Bool.{eqb-true}
use Rattle.std.proofs.lemmas.Option.{slice_get_within}
use Rattle.bucket_core.specs.Rule.{Entries, total_weight, points, at, refinement}
use Rattle.bucket_core.proofs.Refined.{total_weight-refinement}
use Rattle.flag_defs.specs.Document.{Definitions}
use Rattle.book_core.specs.Book.{Contents, Inputs, inputs_on}
use Rattle.book_core.specs.Counts.{counts_of}
use Rattle.book_core.specs.Page.{page_eq}
use Rattle.price_core.specs.Cost.{cost_of}
use Rattle.price_core.specs.Limits.{Limits}
use Rattle.price_core.specs.Pricing.{price_of}
use Rattle.price_core.specs.Request.{Asked, asked_of}
use Rattle.note_tallies.specs.JoinLaw.{IsTallyOf}
use Rattle.note_tallies.specs.Tally.{PageTally}
use Rattle.note_tallies.proofs.Pages.{same_page}
use Rattle.transport_core.specs.Certificate.{DualPrices, IsCertified, alpha_at, beta_of}
use Rattle.transport_core.specs.Dual.{inputs_at, least_value}
use Rattle.transport_core.specs.Fits.{IsLeast}
use Rattle.transport_core.specs.Groups.{AreGroups, GroupKey, group_at, is_same_group, size_of}
use Rattle.transport_core.specs.Sum.{sum_z}
use Rattle.transport_core.specs.declared.certificate.CutKind.TheVariants.{Over, Under}
use Rattle.transport_core.proofs.Costs.{cost-tally, counted_at}
use Rattle.transport_core.proofs.DualSums.{range_place}
use Rattle.transport_core.proofs.Inputs.{sum_placed}
use Rattle.transport_core.proofs.Points.{length-points}
use Rattle.transport_core.proofs.Ranges.{count-same}
use Rattle.plan_text.specs.Answer.{Answer, emit, none_exists}
use Rattle.plan_text.specs.declared.planned.Planned.{Planned}
use Rattle.rollout.specs.Lawful.{Place, Problem, and_then, by_price, factor, limits_for, place_of, problem_at, problem_of, problem_on, sized, weighed}
use Rattle.rollout.specs.Plan.{IsPlan, IsPlanned, IsTallyPlanned}
use Rattle.rollout.specs.CheckedTally.{AreTallied, TallyProblem, of_place, tally_problem_at, tally_problem_of, with_counts, with_inputs}
use Rattle.rollout.specs.declared.fault.RolloutFault.{RolloutFault}
use Rattle.rollout.specs.declared.fault.RolloutFault.TheVariants.{OtherTally}
use Rattle.rollout.specs.declared.refining.Refining.{Refining}
use Rattle.rollout.proofs.Bounded.{came}

-- ---- inputs of which equally many fall on each point

module _ (p : TallyProblem) (some more : Inputs) (of_some : AreTallied p some) (of_more : AreTallied p more) where
  alike : (q : ℕ) → q < total_weight p.old → inputs_at (total_weight p.old) some q ≡ inputs_at (total_weight p.old) more q
  alike q below = sym (counted_at some (total_weight p.old) p.counts q of_some below) ∙ counted_at more (total_weight p.old) p.counts q of_more below

  sizes_are : (g : GroupKey) → size_of p.old some g ≡ size_of p.old more g
  sizes_are g =
      count-same (λ q. is_same_group g (group_at p.old some q)) (λ q. is_same_group g (group_at p.old more q)) 0 (total_weight p.old)
      (λ q low high. ap (λ n. is_same_group g (unwrap_or (at p.old q) [], n)) (alike q (omega arith)))

  groups_are : (keys : List GroupKey) → AreGroups p.old some keys → AreGroups p.old more keys
  groups_are keys are = record {
    rise = are.rise;
    occur = λ g. (λ c. omega (arith, (are.occur g).0 c, sizes_are g), λ has. (are.occur g).1 (omega (arith, has, sizes_are g)));
  }

  alpha_are : (alpha : List (GroupKey × ℤ)) (q : ℕ) → q < total_weight p.old → alpha_at p.old some alpha q ≡ alpha_at p.old more alpha q
  alpha_are alpha q below = ap (λ n. unwrap_or (lookup (is_same_group (unwrap_or (at p.old q) [], n)) alpha) (pos 0)) (alike q below)

  costs_are : (rule : Entries) → 0 < total_weight p.old → total_weight rule ≡ total_weight p.old → cost_of p.old rule some p.pricing ≡ cost_of p.old rule more p.pricing
  costs_are rule positive weight = sym (cost-tally p.old rule some p.counts p.pricing positive weight of_some) ∙ cost-tally p.old rule more p.counts p.pricing positive weight of_more

  certified_are : (rule : Entries) (c : DualPrices) → 0 < total_weight p.old → IsCertified p.old rule p.limits p.pricing some c → IsCertified p.old rule p.limits p.pricing more c
  certified_are rule c positive are = record {
    fits = are.fits;
    groups = groups_are (keys_of c.alpha) are.groups;
    names = are.names;
    dual = record {
      even = λ q r q_in r_in names counts.
          sym (alpha_are c.alpha q q_in) ∙ (are.dual.even q r q_in r_in names (alike q q_in ∙ (counts ∙ sym (alike r r_in))) ∙ alpha_are c.alpha r r_in);
      slack = λ q from to is listed free.
          let below : q < total_weight p.old = omega (arith, slice_get_within (points p.old) q from is, length-points p.old) in
          subst (λ (z : ℤ). (z +ℤ beta_of c.beta to) ≤ℤ pos (inputs_at (total_weight p.old) more q * price_of p.pricing from to)) (alpha_are c.alpha q below)
          (subst (λ n. (alpha_at p.old some c.alpha q +ℤ beta_of c.beta to) ≤ℤ pos (n * price_of p.pricing from to)) (alike q below) (are.dual.slack q from to is listed free));
      sum =
          ap (λ z. z +ℤ sum_z (λ l. least_value l.1 (beta_of c.beta l.0)) p.limits)
          (sum_placed (alpha_at p.old more c.alpha) (alpha_at p.old some c.alpha) (range_with_len 0 (total_weight p.old)) (λ k q stands. sym (alpha_are c.alpha q (omega (arith, range_place 0 (total_weight p.old) k q stands)))))
          ∙ are.dual.sum;
    };
    cost = sym (costs_are rule positive are.fits.weight) ∙ are.cost;
  }

  least_are : (rule : Entries) → 0 < total_weight p.old → IsLeast p.old rule p.limits p.pricing some → IsLeast p.old rule p.limits p.pricing more
  least_are rule positive are = record {
    fits = are.fits;
    least = λ other fits. omega (arith, are.least other fits, costs_are rule positive are.fits.weight, costs_are other positive fits.weight);
  }

  pub plans_are : (answer : Answer) → IsPlan (with_inputs p some) answer → IsPlan (with_inputs p more) answer
  plans_are (emit rule c) plan = record {
    lawful = record { some = plan.lawful.some; limits = plan.lawful.limits };
    proves = certified_are rule c plan.lawful.some plan.proves;
    shows = least_are rule plan.lawful.some plan.shows;
    under_last = tt;
  }
  plans_are (none_exists Over names) plan = record { lawful = record { some = plan.lawful.some; limits = plan.lawful.limits }; proves = plan.proves; shows = plan.shows; under_last = tt }
  plans_are (none_exists Under names) plan = record { lawful = record { some = plan.lawful.some; limits = plan.lawful.limits }; proves = plan.proves; shows = plan.shows; under_last = plan.under_last }

-- ---- a book and the tally of a page's inputs

problem_in : Problem → Result Problem RolloutFault → Problem
problem_in d (Ok p) = p
problem_in d (Err e) = d

tally_in : TallyProblem → Result TallyProblem RolloutFault → TallyProblem
tally_in d (Ok p) = p
tally_in d (Err e) = d

abbrev inputs_in : Inputs → Problem → Problem
inputs_in inputs p = record { old = p.old; limits = p.limits; pricing = p.pricing; inputs = inputs }

-- what is asked does not depend on the inputs
problem_with : (refining : Refining) (inputs : Inputs) (asked : Asked) (place : Place) (p : Problem) → problem_on refining [] asked place ≡ Ok p → problem_on refining inputs asked place ≡ Ok (inputs_in inputs p)
unfolding problem_in
problem_with refining inputs asked place p h =
    let k = factor refining (total_weight place.entries) in
    let total : ℕ = total_weight place.entries * k in
    let problem : Inputs → Limits → Problem = λ xs limits. record { old = refinement k place.entries; limits = limits; pricing = asked.prices; inputs = xs } in
    let limits = came (limits_for place asked) (λ limits. and_then (sized limits total) (λ _. Ok (problem [] limits))) p h in
    let size = came (sized limits.from total) (λ _. Ok (problem [] limits.from)) p limits.gives in
    let is : problem [] limits.from ≡ p = ap (problem_in (problem [] limits.from)) size.gives in
    ap (λ r. and_then r (λ limits. and_then (sized limits total) (λ _. Ok (problem inputs limits)))) limits.was
    ∙ (ap (λ r. and_then r (λ _. Ok (problem inputs limits.from))) size.was ∙ ap (λ q. Ok (inputs_in inputs q)) is)

-- the tally is of the page and of the total
of_place_is : (refining : Refining) (t : PageTally) (place : Place) (u : Unit {0}) → of_place refining t place ≡ Ok u → (place.page ≡ t.page) × (total_weight place.entries * factor refining (total_weight place.entries) ≡ t.total)
of_place_is refining t place u h = by (page_eq place.page t.page) (total_weight place.entries * factor refining (total_weight place.entries) == t.total) refl refl h
  where
    by : (a b : Bool) → page_eq place.page t.page ≡ a → total_weight place.entries * factor refining (total_weight place.entries) == t.total ≡ b → cond (a && b) (Ok tt) (Err OtherTally) ≡ Ok u
        → (place.page ≡ t.page) × (total_weight place.entries * factor refining (total_weight place.entries) ≡ t.total)
    by true true page total h = (same_page place.page t.page page, eqb-true (total_weight place.entries * factor refining (total_weight place.entries)) t.total total)
    by true false page total h = cc
    by false b page total h = cc

-- what is planned on has the total of the site's rule, times the factor
old_total : (refining : Refining) (asked : Asked) (place : Place) (q : Problem) → problem_on refining [] asked place ≡ Ok q → total_weight q.old ≡ total_weight place.entries * factor refining (total_weight place.entries)
unfolding problem_in
old_total refining asked place q h =
    let k = factor refining (total_weight place.entries) in
    let total : ℕ = total_weight place.entries * k in
    let problem : Limits → Problem = λ limits. record { old = refinement k place.entries; limits = limits; pricing = asked.prices; inputs = [] } in
    let limits = came (limits_for place asked) (λ limits. and_then (sized limits total) (λ _. Ok (problem limits))) q h in
    let size = came (sized limits.from total) (λ _. Ok (problem limits.from)) q limits.gives in
    let is : problem limits.from ≡ q = ap (problem_in (problem limits.from)) size.gives in
    ap (λ (x : Problem). total_weight x.old) (sym is) ∙ total_weight-refinement k place.entries

pub asks_alike : (refining : Refining) (flags : Definitions) (request : List ℕ) (book : Contents) (t : PageTally) (p : TallyProblem) → IsTallyOf (inputs_on book t.page) t → tally_problem_of refining flags request t ≡ Ok p
    → (problem_of refining flags request book ≡ Ok (with_inputs p (inputs_on book t.page))) × AreTallied p (inputs_on book t.page)
unfolding tally_in
asks_alike refining flags request book t p of_book h =
    let inputs = inputs_on book t.page in
    let asked = came (by_price (asked_of request)) (λ asked. and_then (place_of flags asked.flag asked.site) (λ place. tally_problem_at refining t asked place)) p h in
    let place = came (place_of flags asked.from.flag asked.from.site) (λ place. tally_problem_at refining t asked.from place) p asked.gives in
    let weight = came (weighed place.from.entries) (λ _. and_then (of_place refining t place.from) (λ _. and_then (problem_on refining [] asked.from place.from) (λ q. Ok (with_counts q t.counts)))) p place.gives in
    let page = came (of_place refining t place.from) (λ _. and_then (problem_on refining [] asked.from place.from) (λ q. Ok (with_counts q t.counts))) p weight.gives in
    let problem = came (problem_on refining [] asked.from place.from) (λ q. Ok (with_counts q t.counts)) p page.gives in
    let is : with_counts problem.from t.counts ≡ p = ap (tally_in p) problem.gives in
    let where_is = of_place_is refining t place.from page.from page.was in
    let total : total_weight p.old ≡ t.total = ap (λ (q : TallyProblem). total_weight q.old) (sym is) ∙ (old_total refining asked.from place.from problem.from problem.was ∙ where_is.1) in (
      ap (λ r. and_then r (λ asked. and_then (place_of flags asked.flag asked.site) (λ place. problem_at refining book asked place))) asked.was
          ∙ (ap (λ r. and_then r (λ place. problem_at refining book asked.from place)) place.was
          ∙ (ap (λ r. and_then r (λ _. problem_on refining (inputs_on book place.from.page) asked.from place.from)) weight.was
          ∙ (ap (λ page. problem_on refining (inputs_on book page) asked.from place.from) where_is.0
          ∙ (problem_with refining inputs asked.from place.from problem.from problem.was ∙ ap (λ (q : TallyProblem). Ok (with_inputs q inputs)) is)))),
      ap (λ (q : TallyProblem). q.counts) (sym is) ∙ (of_book.counts ∙ ap (counts_of inputs) (sym total)),
    )

-- what is planned on the tally is planned on the book
pub plans_of_book : (refining : Refining) (flags : Definitions) (request : List ℕ) (book : Contents) (t : PageTally) (p : TallyProblem) (planned : Planned) → IsTallyOf (inputs_on book t.page) t → tally_problem_of refining flags request t ≡ Ok p
    → IsTallyPlanned (Ok p) (Ok planned) → IsPlanned (problem_of refining flags request book) (Ok planned)
plans_of_book refining flags request book t p planned of_book is plan =
    let alike = asks_alike refining flags request book t p of_book is in
    subst (λ r. IsPlanned r (Ok planned)) (sym alike.0) (plan (inputs_on book t.page) alike.1)
