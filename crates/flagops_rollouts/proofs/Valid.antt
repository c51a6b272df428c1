-- What was planned and printed is told as valid.
use Rattle.std.proofs.Common.{◌≡◌, ◌≤◌, ◌+◌, ◌*◌, ◌%◌, ◌==◌, ℕ, zero, suc, List, length, Bool, true, false, cond, Option, Some, None, is_some, unwrap_or, refl, sym, ap, subst, ◌∙◌, arith, eq-eqb}
use Rattle.std.specs.Prelude.{Result, Ok, Err}
use Rattle.std.proofs.lemmas.Bool.{ltb-false}
use Rattle.std.proofs.lemmas.List.{take_all}
use Rattle.flag_text.specs.Reading.{if_whole}
use Rattle.flag_text.specs.Shape.{Shape}
use Rattle.flag_text.specs.declared.fault.TextFault.{TextFault}
use Rattle.flag_text.specs.declared.fault.TextFault.TheVariants.{TooLarge}
use Rattle.plan_text.specs.PlanFile.{answer_of, if_tree}
use Rattle.flagops_shell.specs.declared.files.LoadFault.{LoadFault}
use Rattle.std.proofs.Math.Nat.{mul-div_cancel_left, mul-mod_right}
use Rattle.bucket_core.proofs.Refined.{total_weight-refinement}
use Rattle.bucket_core.specs.Rule.{Entries, refinement, total_weight}
use Rattle.book_core.specs.Book.{Contents, Inputs, inputs_on}
use Rattle.book_core.specs.Counts.{counts_of}
use Rattle.flag_defs.specs.Document.{Definitions}
use Rattle.price_core.specs.Limits.{Limits}
use Rattle.price_core.specs.Request.{Asked, asked_of}
use Rattle.plan_text.specs.Answer.{Answer, emit, none_exists, planned_view}
use Rattle.transport_core.specs.Certificate.{DualPrices}
use Rattle.plan_text.specs.declared.planned.Planned.{Planned}
use Rattle.rollout.specs.Lawful.{Place, Problem, and_then, by_price, factor, limits_for, place_of, problem_at, sized, weighed}
use Rattle.rollout.specs.Plan.{IsPlanned, IsTallyPlanned}
use Rattle.rollout.specs.Refined.{problem_checked, problem_refined}
use Rattle.rollout.specs.CheckedTally.{AreTallied, IsTallyOutcome, TallyProblem, tally_problem_of, with_inputs}
use Rattle.rollout.specs.Verified.{IsOutcome, Proves, refining_for}
use Rattle.rollout.specs.declared.refining.Refining.TheVariants.{Times}
use Rattle.note_tallies.specs.Tally.{PageTally}
use Rattle.flagops_rollouts.proofs.Asked.{IsPlaced, are_tallied, asked_by_again, asked_is, placed}
use Rattle.rollout.specs.declared.fault.RolloutFault.{RolloutFault}
use Rattle.rollout.specs.declared.fault.RolloutFault.TheVariants.{NoWeight}
use Rattle.rollout.specs.declared.verify_fault.VerifyFault.{VerifyFault}
use Rattle.rollout.specs.declared.verify_fault.VerifyFault.TheVariants.{Request, Check}
use Rattle.transport_core.specs.declared.fault.CheckFault.TheVariants as check
use Rattle.flagops_rollouts.specs.Plan.{Holds, IsPlanOf, IsPlannedOn, MayBePlanned, ReadsBack, report_planned}
use Rattle.flagops_rollouts.specs.Valid.{IsOfInputs, IsValid, IsValidPlan}
use Rattle.flagops_rollouts.specs.Verify.{IsToldOn, IsVerdict, tally_problem_checked, told}
use Rattle.flagops_shell.specs.Files.{Holding, front_of}
use Rattle.flagops_files.specs.Loading.{max_rule}
use Rattle.flagops_shell.specs.Outcomes.{◌>>=◌, refused_by}
use Rattle.flagops_files.specs.declared.evidence.Evidence.{Evidence}
use Rattle.flagops_files.specs.declared.evidence.Evidence.TheVariants.{Book, Tally}
use Rattle.flagops_rollouts.specs.Loaded.{plan_at}
use Rattle.flagops_rollouts.specs.declared.refusal.RolloutRefusal.{RolloutRefusal}
use Rattle.flagops_files.specs.Question.{Question}
use Rattle.flagops_shell.specs.Report.{Report}
use Rattle.flagops_rollouts.specs.Doubts.{doubt_of, settle}
use Rattle.flagops_rollouts.specs.declared.refusal.RolloutCall.TheVariants as call
use Rattle.flagops_rollouts.specs.declared.refusal.RolloutRefusal.TheVariants.{Load}
use Rattle.flagops_files.specs.PlanFile as plans
use Rattle.flagops_files.specs.declared.refusal.Refusal.TheVariants as file

-- ---- a rule of the refined total tells its factor

factor_again : (rule : Entries) (c : DualPrices) (m t : ℕ) → (t == 0) ≡ false → total_weight rule ≡ t * m → factor (refining_for (emit rule c)) t ≡ m
factor_again rule c m zero some total = cc
factor_again rule c m (suc t) some total =
    let whole : (suc t * m % suc t == 0) ≡ true = eq-eqb _ _ (mul-mod_right (suc t) m) in
    rw (total, whole) (mul-div_cancel_left m (omega arith))

refused : {X E : Type 0} {e : E} {x : X} → Err e ≡ Ok x → ⊥
refused h = cc

has_weight : (b : Bool) (x : Unit {0}) → cond b (Err NoWeight) (Ok tt) ≡ Ok x → b ≡ false
has_weight true x h = cc
has_weight false x h = refl

module _ (place : Place) (book : Contents) (asked : Asked) where
  abbrev made : ℕ → Limits → Problem
  made k limits = record { old = refinement k place.entries; limits = limits; pricing = asked.prices; inputs = inputs_on book place.page }

  -- what is asked by a factor
  abbrev problem_by : ℕ → Result Problem RolloutFault
  problem_by k = and_then (weighed place.entries) (λ _. and_then (limits_for place asked) (λ limits. and_then (sized limits (total_weight place.entries * k)) (λ _. Ok (made k limits))))

  last : (k : ℕ) (p : Problem) (limits : Limits) (u : Result (Unit {0}) RolloutFault) → and_then u (λ _. Ok (made k limits)) ≡ Ok p → p.old ≡ refinement k place.entries
  last k p limits (Err e) h = absurd (refused h)
  last k p limits (Ok y) h = let same : made k limits ≡ p = cc in ap (λ (q : Problem). q.old) (sym same)

  -- where it is lawful, the site has weight, and its rule is refined by the factor
  lawful : (k : ℕ) (p : Problem) (w : Result (Unit {0}) RolloutFault) (l : Result Limits RolloutFault) (s : Limits → Result (Unit {0}) RolloutFault)
      → and_then w (λ _. and_then l (λ limits. and_then (s limits) (λ _. Ok (made k limits)))) ≡ Ok p → ((x : Unit {0}) × (w ≡ Ok x)) × (p.old ≡ refinement k place.entries)
  lawful k p (Err e) l s h = absurd (refused h)
  lawful k p (Ok x) (Err e) s h = absurd (refused h)
  lawful k p (Ok x) (Ok limits) s h = ((x, refl), last k p limits (s limits) h)

  total_again : (k : ℕ) (rule : Entries) (c : DualPrices) (p : Problem) → problem_by k ≡ Ok p → total_weight rule ≡ total_weight p.old → problem_at (refining_for (emit rule c)) book asked place ≡ Ok p
  total_again k rule c p h same =
      let parts = lawful k p (weighed place.entries) (limits_for place asked) (λ limits. sized limits (total_weight place.entries * k)) h in
      let some : (total_weight place.entries == 0) ≡ false = has_weight _ parts.0.0 parts.0.1 in
      let total : total_weight rule ≡ total_weight place.entries * k = same ∙ ap total_weight parts.1 ∙ total_weight-refinement k place.entries in
      let by : factor (refining_for (emit rule c)) (total_weight place.entries) ≡ k = factor_again rule c k (total_weight place.entries) some total in
      ap problem_by by ∙ h

-- the request asks the same of the rule itself, and by the total of a rule that has its total
module _ (flags : Definitions) (book : Contents) (rule : Entries) (c : DualPrices) (p : Problem) (same : total_weight rule ≡ total_weight p.old) where
  at_place : (asked : Asked) (place : Result Place RolloutFault) → and_then place (λ it. problem_by it book asked 1) ≡ Ok p → and_then place (λ it. problem_at (refining_for (emit rule c)) book asked it) ≡ Ok p
  at_place asked (Err e) h = absurd (refused h)
  at_place asked (Ok place) h = total_again place book asked 1 rule c p h same

  at_request : (a : Result Asked RolloutFault) → and_then a (λ asked. and_then (place_of flags asked.flag asked.site) (λ place. problem_by place book asked 1)) ≡ Ok p
      → and_then a (λ asked. and_then (place_of flags asked.flag asked.site) (λ place. problem_at (refining_for (emit rule c)) book asked place)) ≡ Ok p
  at_request (Err e) h = absurd (refused h)
  at_request (Ok asked) h = at_place asked (place_of flags asked.flag asked.site) h

-- what is checked of an answer is what it was planned for
module _ (flags : Definitions) (request : List ℕ) where
  same_problem : (refine : Option ℕ) (answer : Answer) (book : Contents) (p : Problem) → problem_refined (unwrap_or refine 1) flags request book ≡ Ok p → Proves p answer
      → problem_checked refine answer flags request book ≡ Ok p
  same_problem (Some m) answer book p h proves = h
  same_problem None (none_exists kind names) book p h proves = h
  same_problem None (emit rule c) book p h proves = at_request flags book rule c p proves.fits.weight (by_price (asked_of request)) h

  -- the same on a tally
  factor_by : (rule : Entries) (c : DualPrices) (tally : PageTally) (p : TallyProblem) (is : IsPlaced (Times 1) flags request tally p) → total_weight rule ≡ total_weight p.old
      → factor (refining_for (emit rule c)) (total_weight is.place.entries) ≡ 1
  factor_by rule c tally p is same =
      let asks = asked_is tally is.asked is.place (Times 1) p is.asks in
      factor_again rule c 1 (total_weight is.place.entries) asks.some (same ∙ (ap total_weight asks.old ∙ total_weight-refinement 1 is.place.entries))

  same_tally_problem : (refine : Option ℕ) (answer : Answer) (tally : PageTally) (p : TallyProblem) (inputs : Inputs) → tally_problem_of (Times (unwrap_or refine 1)) flags request tally ≡ Ok p
      → Proves (with_inputs p inputs) answer → tally_problem_checked refine answer flags request tally ≡ Ok p
  same_tally_problem (Some m) answer tally p inputs h proves = h
  same_tally_problem None (none_exists kind names) tally p inputs h proves = h
  same_tally_problem None (emit rule c) tally p inputs h proves =
      let is = placed (Times 1) flags request tally p h in
      asked_by_again (Times 1) (refining_for (emit rule c)) flags request tally p is (factor_by rule c tally p is proves.fits.weight)

-- ---- what proves a problem is told as valid

told_valid : (json b : Bool) (p : Problem) (answer : Answer) (verdict : Result (Unit {0}) VerifyFault) → Proves p answer → IsOutcome (Ok p) answer verdict → IsValid json answer (told json (Ok b) answer verdict)
told_valid json b p answer (Ok u) proves h = (refl, refl)
told_valid json b p answer (Err (Request e)) proves h = rw h refl
told_valid json b p answer (Err (Check check.WantOfMemory)) proves h = refl
told_valid json b p answer (Err (Check check.Weight)) proves h = absurd (h.wrong (λ same. cc) proves)
told_valid json b p answer (Err (Check check.Totals)) proves h = absurd (h.wrong (λ same. cc) proves)
told_valid json b p answer (Err (Check (check.Forbidden point))) proves h = absurd (h.wrong (λ same. cc) proves)
told_valid json b p answer (Err (Check (check.Slack name count variant))) proves h = absurd (h.wrong (λ same. cc) proves)
told_valid json b p answer (Err (Check check.Sum)) proves h = absurd (h.wrong (λ same. cc) proves)
told_valid json b p answer (Err (Check check.Cost)) proves h = absurd (h.wrong (λ same. cc) proves)
told_valid json b p answer (Err (Check check.NotDeficient)) proves h = absurd (h.wrong (λ same. cc) proves)
told_valid json b p answer (Err (Check check.Groups)) proves h = absurd (h.wrong (λ same. cc) proves)

-- what is told of all inputs with these counts is told of some of them
pub outcome_over : (p : TallyProblem) (inputs : Inputs) (answer : Answer) (verdict : Result (Unit {0}) VerifyFault) → AreTallied p inputs → IsTallyOutcome (Ok p) answer verdict → IsOutcome (Ok (with_inputs p inputs)) answer verdict
outcome_over p inputs answer (Ok u) tallied h = h inputs tallied
outcome_over p inputs answer (Err (Request e)) tallied h = h
outcome_over p inputs answer (Err (Check e)) tallied h = h inputs tallied

module _ (refine : Option ℕ) (flags : Definitions) (request : List ℕ) (answer : Planned) (json b : Bool) (verdict : Result (Unit {0}) VerifyFault) where
  book_right : (book : Contents) (r : Result Problem RolloutFault) → problem_refined (unwrap_or refine 1) flags request book ≡ r → IsPlanned r (Ok answer) → IsToldOn refine (planned_view answer) flags request (Book book) verdict
      → IsValid json (planned_view answer) (told json (Ok b) (planned_view answer) verdict)
  book_right book (Err f) e plan outcome = absurd plan
  book_right book (Ok p) e plan outcome =
      told_valid json b p (planned_view answer) verdict plan.proves
      (subst (λ (it : Result Problem RolloutFault). IsOutcome it (planned_view answer) verdict) (same_problem flags request refine (planned_view answer) book p e plan.proves) outcome)

  tally_right : (tally : PageTally) (inputs : Inputs) → tally.counts ≡ counts_of inputs tally.total → (r : Result TallyProblem RolloutFault) → tally_problem_of (Times (unwrap_or refine 1)) flags request tally ≡ r
      → IsTallyPlanned r (Ok answer) → IsToldOn refine (planned_view answer) flags request (Tally tally) verdict → IsValid json (planned_view answer) (told json (Ok b) (planned_view answer) verdict)
  tally_right tally inputs of (Err f) e plan outcome = absurd plan
  tally_right tally inputs of (Ok p) e plan outcome =
      let tallied = are_tallied (Times (unwrap_or refine 1)) flags request tally p inputs e of in
      let proves = (plan inputs tallied).proves in
      told_valid json b (with_inputs p inputs) (planned_view answer) verdict proves
      (outcome_over p inputs (planned_view answer) verdict tallied
      (subst (λ (it : Result TallyProblem RolloutFault). IsTallyOutcome it (planned_view answer) verdict) (same_tally_problem flags request refine (planned_view answer) tally p inputs e proves) outcome))

  right_on : (evidence : Evidence) → IsOfInputs evidence → IsPlannedOn (unwrap_or refine 1) flags request evidence (Ok answer) → IsToldOn refine (planned_view answer) flags request evidence verdict
      → IsValid json (planned_view answer) (told json (Ok b) (planned_view answer) verdict)
  right_on (Book book) of plan outcome = book_right book (problem_refined (unwrap_or refine 1) flags request book) refl plan outcome
  right_on (Tally tally) (inputs, of) plan outcome = tally_right tally inputs of (tally_problem_of (Times (unwrap_or refine 1)) flags request tally) refl plan outcome

-- ---- a file of a text that reads as an answer

fits_by : (b : Bool) (r : Result Shape TextFault) (answer : Answer) → if_tree (if_whole (cond b (Err TooLarge) r)) ≡ Ok answer → b ≡ false
fits_by true r answer h = absurd (refused h)
fits_by false r answer h = refl

loaded : (at : Holding) (path text : List ℕ) → at path ≡ Some text → length text ≤ max_rule → front_of max_rule (at path) ≡ Ok text
loaded at path text is fits = ap (front_of max_rule) is ∙ ap Ok (take_all (max_rule + 1) text (omega (arith, fits)))

saved_file : (at : Holding) (path text : List ℕ) (answer : Answer) → at path ≡ Some text → Holds answer text → plans.plan_at at path ≡ Ok answer
unfolding plans.plan_at
saved_file at path text answer is holds =
    let fits : length text ≤ max_rule = ltb-false max_rule (length text) (fits_by _ _ answer holds) in
    ap (λ (it : Result (List ℕ) LoadFault). refused_by file.Load it >>= λ bytes. refused_by file.ReadPlanned (answer_of bytes)) (loaded at path text is fits) ∙ ap (refused_by file.ReadPlanned) holds

saved_plan : (at : Holding) (path text : List ℕ) (answer : Answer) → at path ≡ Some text → Holds answer text → plan_at at path ≡ Ok answer
unfolding plan_at
saved_plan at path text answer is holds = ap (refused_by Load) (saved_file at path text answer is holds)

module _ (refine : Option ℕ) (q : Question) (report : Report) (p : Planned) where
  planned_valid : IsOfInputs q.evidence → MayBePlanned refine q (Ok p) → Holds (planned_view p) report.text → IsValidPlan refine q report.text
  planned_valid of may holds = record {
    answer = planned_view p;
    holds = holds;
    valid = λ json at path r is told_of.
        let verdict : IsVerdict false json refine (Ok q) (Ok (planned_view p)) r = subst (λ (it : Result Answer RolloutRefusal). IsVerdict false json refine (Ok q) it r) (saved_plan at path report.text (planned_view p) is holds) told_of in
        subst (IsValid json (planned_view p)) (sym verdict.2) (right_on refine q.flags q.request p json (is_some (doubt_of q)) verdict.0 q.evidence of may.answers verdict.1.told);
  }

pub plans_are_valid : (strict explain : Bool) (refine : Option ℕ) (q : Question) (report : Report) → IsOfInputs q.evidence → IsPlanOf strict explain refine (Ok q) (Ok report) → IsValidPlan refine q report.text
plans_are_valid strict explain refine q report of (planned, may, is, back) = go planned may is back
  where
    go : (planned : Result Planned RolloutFault) → MayBePlanned refine q planned → Ok report ≡ report_planned (unwrap_or refine 1) explain (settle call.Plan strict (doubt_of q)) planned → ReadsBack planned (Ok report) → IsValidPlan refine q report.text
    go (Err e) may is back = absurd (refused (sym is))
    go (Ok p) may is back = planned_valid refine q report p of may back
