-- What is answered on the tally of some inputs is answered on a book that has them.
use Rattle.std.proofs.Common.{◌≡◌, ◌≢◌, ◌∙◌, ◌*◌, ◌==◌, ◌&&◌, ◌<◌, ℕ, zero, suc, List, [], ◌∷◌, length, Bool, true, false, true≢false, cond, unwrap_or, Option, None, Some, Ordering, Result, Ok, Err, refl, sym, ap, subst}
use Rattle.std.specs.Ordering.{is_eq, ordering_reverse}
use Rattle.std.specs.declared.cmp.Ordering.TheVariants.{Less, Equal, Greater}
use Rattle.std.proofs.Math.Nat.{mul-div_cancel_left, mul-mod_right}
use Rattle.bucket_core.proofs.Refined.{total_weight-refinement}
use Rattle.bucket_core.specs.Rule.{Entries, refinement, total_weight}
use Rattle.book_core.specs.Book.{Contents, Inputs, inputs_on}
use Rattle.book_core.specs.Counts.{counts_of}
use Rattle.book_core.specs.Page.{page_cmp, page_eq}
use Rattle.book_core.specs.PageOrder.{pages_total}
use Rattle.flag_defs.specs.Document.{Definitions}
use Rattle.plan_text.specs.Answer.{Answer, emit}
use Rattle.price_core.specs.Limits.{Limits}
use Rattle.price_core.specs.Request.{Asked, asked_of}
use Rattle.rollout.specs.Tallied.{TalliesAskAsBooks}
use Rattle.rollout.specs.Lawful.{Place, Problem, and_then, by_price, factor, limits_for, place_of, problem_at, problem_of, sized, weighed}
use Rattle.rollout.specs.Plan.{IsPlan}
use Rattle.rollout.specs.Refined.{refining_checked}
use Rattle.rollout.specs.CheckedTally.{AreTallied, IsTallyOutcome, IsTallyShown, TallyProblem, tally_problem_at, tally_problem_of, with_counts, with_inputs}
use Rattle.rollout.specs.Verified.{IsOutcome, IsShown}
use Rattle.rollout.specs.VerifyFault.{is_want}
use Rattle.rollout.specs.declared.fault.RolloutFault.{RolloutFault}
use Rattle.rollout.specs.declared.fault.RolloutFault.TheVariants.{OtherTally}
use Rattle.rollout.specs.declared.refining.Refining.{Refining}
use Rattle.rollout.specs.declared.refining.Refining.TheVariants.{Times, ToTotal}
use Rattle.rollout.specs.declared.verify_fault.VerifyFault.{VerifyFault}
use Rattle.rollout.specs.declared.verify_fault.VerifyFault.TheVariants.{Request, Check}
use Rattle.note_tallies.specs.Tally.{PageTally}
use Rattle.transport_core.specs.Certificate.{DualPrices}
use Rattle.ramp.specs.Laws.{IsOfInputs, TellsOtherTally}
use Rattle.ramp.specs.Ramp.{ArePlans, IsPlanOn, IsRefusedAfter, IsStep, IsStepRefused, Recorded, Standing, in_book, in_tally, left_by, still}
use Rattle.ramp.specs.Right.{AreMiscounted, AreRight, IsRight, IsStepTold, IsTold, IsWrongAfter}
use Rattle.ramp.specs.declared.fault.RampFault.{RampFault}
use Rattle.ramp.specs.declared.fault.RampFault.TheVariants.{Lines, Step}
use Rattle.ramp.proofs.Kept.{Asks, asks_of}

refused : {X E : Type 0} {e : E} {x : X} → Err e ≡ Ok x → ⊥
refused h = cc

-- ---- a request that is refused on a tally, and not for the tally, is refused on each book

abbrev with_tally : Bool → Result (Unit {0}) RolloutFault
with_tally of = cond of (Ok tt) (Err OtherTally)

module _ (t : PageTally) (asked : Asked) (place : Place) where
  abbrev made : ℕ → Inputs → Limits → Problem
  made k inputs limits = record { old = refinement k place.entries; limits = limits; pricing = asked.prices; inputs = inputs }

  -- what is asked by a factor, of these inputs
  abbrev asked_by : ℕ → Inputs → Result Problem RolloutFault
  asked_by k inputs = and_then (limits_for place asked) (λ limits. and_then (sized limits (total_weight place.entries * k)) (λ _. Ok (made k inputs limits)))

  -- the tally is of the page, and of so many times the total
  abbrev is_of : ℕ → Bool
  is_of k = page_eq place.page t.page && (total_weight place.entries * k == t.total)

  abbrev tally_by : ℕ → Result TallyProblem RolloutFault
  tally_by k = and_then (weighed place.entries) (λ _. and_then (with_tally (is_of k)) (λ _. and_then (asked_by k []) (λ p. Ok (with_counts p t.counts))))

  -- by another refinement with the same factor it asks the same
  asked_again : (one other : Refining) → factor one (total_weight place.entries) ≡ factor other (total_weight place.entries) → tally_problem_at one t asked place ≡ tally_problem_at other t asked place
  asked_again one other same = ap tally_by same

  refused_last : (k : ℕ) (inputs : Inputs) (limits : Limits) (u : Result (Unit {0}) RolloutFault) (f : RolloutFault)
      → and_then (and_then u (λ _. Ok (made k [] limits))) (λ q. Ok (with_counts q t.counts)) ≡ Err f → and_then u (λ _. Ok (made k inputs limits)) ≡ Err f
  refused_last k inputs limits (Err e) f h = cc
  refused_last k inputs limits (Ok u) f h = absurd (refused (sym h))

  refused_parts : (k : ℕ) (inputs : Inputs) (f : RolloutFault) (w : Result (Unit {0}) RolloutFault) (of : Bool) (limits : Result Limits RolloutFault) → f ≢ OtherTally
      → and_then w (λ _. and_then (with_tally of) (λ _. and_then (and_then limits (λ l. and_then (sized l (total_weight place.entries * k)) (λ _. Ok (made k [] l)))) (λ q. Ok (with_counts q t.counts)))) ≡ Err f
      → and_then w (λ _. and_then limits (λ l. and_then (sized l (total_weight place.entries * k)) (λ _. Ok (made k inputs l)))) ≡ Err f
  refused_parts k inputs f (Err e) of limits apart h = cc
  refused_parts k inputs f (Ok u) false limits apart h = absurd (apart cc)
  refused_parts k inputs f (Ok u) true (Err e) apart h = cc
  refused_parts k inputs f (Ok u) true (Ok l) apart h = refused_last k inputs l (sized l (total_weight place.entries * k)) f h

  refused_at : (refining : Refining) (book : Contents) (f : RolloutFault) → f ≢ OtherTally → tally_problem_at refining t asked place ≡ Err f → problem_at refining book asked place ≡ Err f
  refused_at refining book f apart h =
      let k = factor refining (total_weight place.entries) in
      refused_parts k (inputs_on book place.page) f (weighed place.entries) (is_of k) (limits_for place asked) apart h

module _ (refining : Refining) (flags : Definitions) (book : Contents) (t : PageTally) (f : RolloutFault) (apart : f ≢ OtherTally) where
  refused_place : (asked : Asked) (place : Result Place RolloutFault) → and_then place (λ it. tally_problem_at refining t asked it) ≡ Err f → and_then place (λ it. problem_at refining book asked it) ≡ Err f
  refused_place asked (Err e) h = cc
  refused_place asked (Ok place) h = refused_at t asked place refining book f apart h

  refused_request : (a : Result Asked RolloutFault) → and_then a (λ asked. and_then (place_of flags asked.flag asked.site) (λ place. tally_problem_at refining t asked place)) ≡ Err f
      → and_then a (λ asked. and_then (place_of flags asked.flag asked.site) (λ place. problem_at refining book asked place)) ≡ Err f
  refused_request (Err e) h = cc
  refused_request (Ok asked) h = refused_place asked (place_of flags asked.flag asked.site) h

  refused_alike : (request : List ℕ) → tally_problem_of refining flags request t ≡ Err f → problem_of refining flags request book ≡ Err f
  refused_alike request h = refused_request (by_price (asked_of request)) h

-- ---- what holds of all inputs with the tally's counts holds of some

outcome_over : (p : TallyProblem) (inputs : Inputs) (answer : Answer) (told : Result (Unit {0}) VerifyFault) → AreTallied p inputs → IsTallyOutcome (Ok p) answer told → IsOutcome (Ok (with_inputs p inputs)) answer told
outcome_over p inputs answer (Ok u) tallied h = h inputs tallied
outcome_over p inputs answer (Err (Request e)) tallied h = h
outcome_over p inputs answer (Err (Check e)) tallied h = h inputs tallied

module _ (asks : TalliesAskAsBooks) (book : Contents) (t : PageTally) (counts : t.counts ≡ counts_of (inputs_on book t.page) t.total) where
  -- which inputs were counted is all that matters of a tally
  alike : (refining : Refining) (flags : Definitions) (request : List ℕ) (p : TallyProblem) → tally_problem_of refining flags request t ≡ Ok p
      → (problem_of refining flags request book ≡ Ok (with_inputs p (inputs_on book t.page))) × AreTallied p (inputs_on book t.page)
  alike refining flags request p is = asks refining flags request book (record t { inputs = length (inputs_on book t.page) }) p (record { inputs = refl; counts = counts }) is

  -- ---- plans

  plan_there : (m : ℕ) (flags : Definitions) (request : List ℕ) (answer : Answer) → IsPlanOn m flags request (in_tally t) answer → IsPlanOn m flags request (in_book book) answer
  plan_there m flags request answer plan =
      let both = alike (Times m) flags request plan.0 plan.1 in
      (with_inputs plan.0 (inputs_on book t.page), both.0, plan.2 (inputs_on book t.page) both.1)

  step_there : (s : Standing) (m : ℕ) (r : List ℕ) (a : Answer) → IsStep s m r (in_tally t) a → IsStep s m r (in_book book) a
  step_there s m r a step = record { flags = step.flags; stands = step.stands; lawful = step.lawful; plan = plan_there m step.flags r a step.plan }

  pub plans_there : (s : Standing) (m : ℕ) (rs : List (List ℕ)) (answers : List Answer) → ArePlans s m rs (in_tally t) answers → ArePlans s m rs (in_book book) answers
  plans_there s m [] [] h = tt
  plans_there s m [] (a ∷ answers) h = absurd h
  plans_there s m (r ∷ rs) [] h = absurd h
  plans_there s m (r ∷ rs) (a ∷ answers) h = (step_there s m r a h.0, plans_there (left_by s r a) 1 (still a rs) answers h.1)

  -- ---- refusals

  refused_there : (s : Standing) (m : ℕ) (r : List ℕ) (e : RolloutFault) → e ≢ OtherTally → IsStepRefused s m r (in_tally t) e → IsStepRefused s m r (in_book book) e
  refused_there (Ok flags) m r e apart h = refused_alike (Times m) flags book t e apart r h
  refused_there (Err f) m r e apart h = cc

  pub refused_after_there : (s : Standing) (m : ℕ) (rs : List (List ℕ)) (before : List Answer) (e : RolloutFault) → e ≢ OtherTally → IsRefusedAfter s m rs (in_tally t) before e → IsRefusedAfter s m rs (in_book book) before e
  refused_after_there s m [] before e apart h = absurd h
  refused_after_there s m (r ∷ rs) [] e apart h = refused_there s m r e apart h
  refused_after_there s m (r ∷ rs) (a ∷ before) e apart h = (step_there s m r a h.0, refused_after_there (left_by s r a) 1 (still a rs) before e apart h.1)

  -- ---- verdicts

  module _ (refining : Refining) (flags : Definitions) (r : List ℕ) (a : Answer) where
    right_to : (p : Result TallyProblem RolloutFault) → tally_problem_of refining flags r t ≡ p → IsTallyOutcome p a (Ok tt) → IsOutcome (problem_of refining flags r book) a (Ok tt)
    right_to (Err f) is told = absurd told
    right_to (Ok p) is told =
        let both = alike refining flags r p is in
        subst (λ (x : Result Problem RolloutFault). IsOutcome x a (Ok tt)) (sym both.0) (told (inputs_on book t.page) both.1)

    shown_to : (p : Result TallyProblem RolloutFault) → tally_problem_of refining flags r t ≡ p → IsTallyShown p a → IsShown (problem_of refining flags r book) a
    shown_to (Err f) is shown = absurd shown
    shown_to (Ok p) is shown =
        let both = alike refining flags r p is in
        subst (λ (x : Result Problem RolloutFault). IsShown x a) (sym both.0) (shown (inputs_on book t.page) both.1)

    wrong_to : (e : VerifyFault) → is_want e ≡ false → e ≢ Request OtherTally → (p : Result TallyProblem RolloutFault) → tally_problem_of refining flags r t ≡ p → IsTallyOutcome p a (Err e) → IsOutcome (problem_of refining flags r book) a (Err e)
    wrong_to (Request e) wants other (Err f) is told =
        let same : e ≡ f = told (λ want. true≢false (sym (ap (λ x. is_want (Request x)) want) ∙ wants)) in
        let none = refused_alike refining flags book t f (λ of. other (ap (λ x. Request x) (same ∙ of))) r is in
        subst (λ (x : Result Problem RolloutFault). IsOutcome x a (Err (Request e))) (sym none) told
    wrong_to (Check e) wants other (Err f) is told = absurd told
    wrong_to e wants other (Ok p) is told =
        let both = alike refining flags r p is in
        subst (λ (x : Result Problem RolloutFault). IsOutcome x a (Err e)) (sym both.0) (outcome_over p (inputs_on book t.page) a (Err e) both.1 told)

  told_there : (s : Standing) (f : Option ℕ) (r : List ℕ) (a : Answer) (e : VerifyFault) → is_want e ≡ false → e ≢ Request OtherTally → IsStepTold s f r (in_tally t) a (Err e) → IsStepTold s f r (in_book book) a (Err e)
  told_there (Ok flags) f r a e wants other told = wrong_to (refining_checked f a) flags r a e wants other (tally_problem_of (refining_checked f a) flags r t) refl told
  told_there (Err f') f r a (Request e) wants other told = told
  told_there (Err f') f r a (Check e) wants other told = told

  right_there : (s : Standing) (f : Option ℕ) (r : List ℕ) (a : Answer) → IsRight s f r (in_tally t) a → IsRight s f r (in_book book) a
  right_there (Ok flags) f r a right = record {
    told = right_to (refining_checked f a) flags r a (tally_problem_of (refining_checked f a) flags r t) refl right.told;
    shown = shown_to (refining_checked f a) flags r a (tally_problem_of (refining_checked f a) flags r t) refl right.shown;
  }
  right_there (Err e) f r a right = absurd right.shown

  all_right_there : (s : Standing) (f : Option ℕ) (rs : List (List ℕ)) (answers : List Answer) → AreRight s f rs (in_tally t) answers → AreRight s f rs (in_book book) answers
  all_right_there s f [] [] h = tt
  all_right_there s f [] (a ∷ answers) h = absurd h
  all_right_there s f (r ∷ rs) [] h = absurd h
  all_right_there s f (r ∷ rs) (a ∷ answers) h = (right_there s f r a h.0, all_right_there (left_by s r a) (Some 1) (still a rs) answers h.1)

  miscounted_there : (s : Standing) (f : Option ℕ) (rs : List (List ℕ)) (answers : List Answer) → AreMiscounted s f rs (in_tally t) answers → AreMiscounted s f rs (in_book book) answers
  miscounted_there s f [] [] h = absurd h
  miscounted_there s f [] (a ∷ answers) h = tt
  miscounted_there s f (r ∷ rs) [] h = tt
  miscounted_there s f (r ∷ rs) (a ∷ answers) h = (right_there s f r a h.0, miscounted_there (left_by s r a) (Some 1) (still a rs) answers h.1)

  wrong_there : (s : Standing) (f : Option ℕ) (rs : List (List ℕ)) (answers : List Answer) (n : ℕ) (e : VerifyFault) → is_want e ≡ false → e ≢ Request OtherTally → IsWrongAfter s f rs (in_tally t) answers n e → IsWrongAfter s f rs (in_book book) answers n e
  wrong_there s f [] answers n e wants other h = absurd h
  wrong_there s f (r ∷ rs) [] n e wants other h = absurd h
  wrong_there s f (r ∷ rs) (a ∷ answers) zero e wants other h = told_there s f r a e wants other h
  wrong_there s f (r ∷ rs) (a ∷ answers) (suc n) e wants other h = (right_there s f r a h.0, wrong_there (left_by s r a) (Some 1) (still a rs) answers n e wants other h.1)

  pub tells_there : (s : Standing) (f : Option ℕ) (rs : List (List ℕ)) (answers : List Answer) (told : Result (Unit {0}) RampFault) → ¬ (TellsOtherTally told) → IsTold s f rs (in_tally t) answers told → IsTold s f rs (in_book book) answers told
  tells_there s f rs answers (Ok u) other told = all_right_there s f rs answers told
  tells_there s f rs answers (Err Lines) other told = miscounted_there s f rs answers told
  tells_there s f rs answers (Err (Step n e)) other told = λ wants.
      let wrong = told wants in
      (wrong.0, wrong.1, wrong_there s f rs answers wrong.0 e wants (λ is. other (n, ap (λ x. Err (Step n x)) is)) wrong.2)

-- ---- a tally of some inputs, and a book with no others

self_equal : (o : Ordering) → o ≡ ordering_reverse o → o ≡ Equal
self_equal Less h = cc
self_equal Equal h = refl
self_equal Greater h = cc

found_there : (o : Ordering) (inputs : Inputs) → o ≡ Equal → unwrap_or (cond (is_eq o) (Some inputs) None) [] ≡ inputs
found_there o inputs is = rw is refl

abbrev page_book : PageTally → Inputs → Contents
page_book t inputs = (t.page, inputs) ∷ []

inputs_there : (t : PageTally) (inputs : Inputs) → inputs_on (page_book t inputs) t.page ≡ inputs
unfolding inputs_on
inputs_there t inputs = found_there (page_cmp t.page t.page) inputs (self_equal (page_cmp t.page t.page) (pages_total.antisymm t.page t.page))

-- a book with the inputs that were recorded
abbrev pub recording : (recorded : Recorded) → IsOfInputs recorded → Contents
recording (in_book book) of = book
recording (in_tally t) of = page_book t of.0

pub counts_there : (t : PageTally) (inputs : Inputs) → t.counts ≡ counts_of inputs t.total → t.counts ≡ counts_of (inputs_on (page_book t inputs) t.page) t.total
counts_there t inputs of = of ∙ ap (λ (xs : Inputs). counts_of xs t.total) (sym (inputs_there t inputs))

pub plans_recorded : TalliesAskAsBooks → (recorded : Recorded) (of : IsOfInputs recorded) (s : Standing) (m : ℕ) (rs : List (List ℕ)) (answers : List Answer) → ArePlans s m rs recorded answers → ArePlans s m rs (in_book (recording recorded of)) answers
plans_recorded asks (in_book book) of s m rs answers plans = plans
plans_recorded asks (in_tally t) of s m rs answers plans = plans_there asks (page_book t of.0) t (counts_there t of.0 of.1) s m rs answers plans

-- ---- a rule that was planned on a tally tells the factor

factor_again : (m total : ℕ) → 0 < total → factor (ToTotal (total * m)) total ≡ m
factor_again m total some = rw (mul-mod_right total m, mul-div_cancel_left m some) refl

module _ (asks : TalliesAskAsBooks) (t : PageTally) (inputs : Inputs) (of : t.counts ≡ counts_of inputs t.total) (m : ℕ) (flags : Definitions) (r : List ℕ) where
  -- where the request asks of a site, that is all that is asked of the tally
  opened : (p : Problem) (asked : Asks flags m r p) (refining : Refining) → tally_problem_of refining flags r t ≡ tally_problem_at refining t asked.asked asked.place
  opened p asked refining =
      ap (λ x. and_then (by_price x) (λ a. and_then (place_of flags a.flag a.site) (λ place. tally_problem_at refining t a place))) asked.is
      ∙ ap (λ x. and_then x (λ place. tally_problem_at refining t asked.asked place)) asked.stands

  pub rule_again : (rule : Entries) (c : DualPrices) (plan : IsPlanOn m flags r (in_tally t) (emit rule c)) → tally_problem_of (ToTotal (total_weight rule)) flags r t ≡ Ok plan.0
  rule_again rule c plan =
      let book = page_book t inputs in
      let there = plan_there asks book t (counts_there t inputs of) m flags r (emit rule c) plan in
      let asked = asks_of flags m r book there.0 there.1 in
      let w = total_weight asked.place.entries in
      let total : total_weight rule ≡ w * m = there.2.proves.fits.weight ∙ ap total_weight asked.old ∙ total_weight-refinement m asked.place.entries in
      let same : factor (ToTotal (total_weight rule)) w ≡ m = ap (λ n. factor (ToTotal n) w) total ∙ factor_again m w asked.some in
      opened there.0 asked (ToTotal (total_weight rule)) ∙ (asked_again t asked.asked asked.place (ToTotal (total_weight rule)) (Times m) same ∙ (sym (opened there.0 asked (Times m)) ∙ plan.1))

  -- what is told of a plan where what it was planned for is checked is told of it on the book
  pub told_of_plan : (a : Answer) (plan : IsPlanOn m flags r (in_tally t) a) (e : VerifyFault) → IsTallyOutcome (Ok plan.0) a (Err e)
      → (p : Problem) × (problem_of (Times m) flags r (page_book t inputs) ≡ Ok p) × IsPlan p a × IsOutcome (problem_of (Times m) flags r (page_book t inputs)) a (Err e)
  told_of_plan a plan e told =
      let book = page_book t inputs in
      let both = alike asks book t (counts_there t inputs of) (Times m) flags r plan.0 plan.1 in (
        with_inputs plan.0 (inputs_on book t.page),
        both.0,
        plan.2 (inputs_on book t.page) both.1,
        subst (λ (x : Result Problem RolloutFault). IsOutcome x a (Err e)) (sym both.0) (outcome_over plan.0 (inputs_on book t.page) a (Err e) both.1 told),
      )
