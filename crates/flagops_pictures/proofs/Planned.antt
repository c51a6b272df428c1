-- A plan that is printed and drawn.
use Rattle.std.proofs.Common.{◌≡◌, ◌⊎◌, ◌||◌, Bool, false, true, ℕ, List, Option, None, Some, Result, Ok, Err, unwrap_or, refl, ap, ◌∙◌, subst, sym, inl, inr}
use Rattle.std.specs.Prelude.{IfErr, IfOk, IfSome}
use Rattle.flag_defs.specs.Document.{Definitions}
use Rattle.flagops_rollouts.specs.Doubts.{doubt_of, settle}
use Rattle.flagops_rollouts.specs.Finer.{is_finer}
use Rattle.flagops_rollouts.specs.Plan.{IsPlanOf, IsPlannedOn, plan_report, plan_status, report_planned}
use Rattle.flagops_shell.specs.Files.{Holding, KeepsOthers, Stores}
use Rattle.flagops_files.specs.Question.{Question, question_view}
use Rattle.flagops_rollouts.specs.Loaded.{IsQuestionAt}
use Rattle.flagops_shell.specs.Report.{Report, outcome_view}
use Rattle.flagops_files.specs.declared.evidence.Evidence.{Evidence}
use Rattle.flagops_files.specs.declared.evidence.Evidence.TheVariants.{Book, Tally}
use Rattle.flagops_shell.specs.declared.outcome.Outcome.{Outcome}
use Rattle.flagops_rollouts.specs.Refusal.{GivesOne, is_want, unwritable, Refused}
use Rattle.flagops_rollouts.specs.declared.refusal.RolloutCall.{RolloutCall}
use Rattle.flagops_rollouts.specs.declared.refusal.RolloutCall.TheVariants as call
use Rattle.flagops_rollouts.specs.declared.refusal.RolloutRefusal.{RolloutRefusal}
use Rattle.flagops_rollouts.specs.declared.refusal.RolloutRefusal.TheVariants.{PrintPlanned, WantOfMemory}
use Rattle.flagops_shell.specs.Outcomes.{◌>>=◌, refused_by, beside}
use Rattle.plan_text.specs.Answer.{Answer, emit, none_exists, planned_view}
use Rattle.plan_text.specs.PlanFile.{answer_of}
use Rattle.plan_text.specs.PlanFile.{plan_line}
use Rattle.plan_text.specs.declared.fault.PlanFileFault.{PlanFileFault}
use Rattle.plan_text.specs.declared.planned.Planned.{Planned}
use Rattle.ramp.specs.Right.{IsStepShown}
use Rattle.rollout.specs.Lawful.{Problem}
use Rattle.rollout.specs.Plan.{IsPlanned, IsTallyPlanned}
use Rattle.rollout.specs.Refined.{problem_refined}
use Rattle.rollout.specs.CheckedTally.{IsTallyShown, TallyProblem, tally_problem_of}
use Rattle.rollout.specs.Verified.{IsShown}
use Rattle.rollout.specs.declared.fault.RolloutFault.{RolloutFault}
use Rattle.rollout.specs.declared.refining.Refining.TheVariants.{Times}
use Rattle.flagops_ramps.specs.Ramp.{recorded}
use Rattle.flagops_pictures.specs.Planning.{IsPictureOf, IsPlanPicture, IsPlanWith, KeepsUnlessPlanned}
use Rattle.flagops_pictures.specs.Words.{Planning}

-- ---- what is planned is shown to be right

of_book : (asked : Result Problem RolloutFault) (p : Planned) → IsPlanned asked (Ok p) → IsShown asked (planned_view p)
of_book (Ok problem) p plan = (plan.lawful, plan.shows)
of_book (Err f) p plan = plan

of_tally : (asked : Result TallyProblem RolloutFault) (p : Planned) → IsTallyPlanned asked (Ok p) → IsTallyShown asked (planned_view p)
of_tally (Ok problem) p plan = λ inputs tallied. ((plan inputs tallied).lawful, (plan inputs tallied).shows)
of_tally (Err f) p plan = plan

shown : (m : ℕ) (flags : Definitions) (request : List ℕ) (evidence : Evidence) (p : Planned) → IsPlannedOn m flags request evidence (Ok p) → IsStepShown (Ok flags) (Some m) request (recorded evidence) (planned_view p)
shown m flags request (Book book) p plan = of_book (problem_refined m flags request book) p plan
shown m flags request (Tally t) p plan = of_tally (tally_problem_of (Times m) flags request t) p plan

module _ (strict explain : Bool) (refine : Option ℕ) (q : Question) where
  -- an answer is shown to be right that was planned so
  abbrev IsRight : Answer → Type 0
  IsRight answer = IsStepShown (Ok q.flags) (Some (unwrap_or refine 1)) q.request (recorded q.evidence) answer

  -- a plan that is reported reads as an answer that is right
  planned_there : (report : Report) → IsPlanOf strict explain refine (Ok q) (Ok report) → (answer : Answer) × (answer_of report.text ≡ Ok answer) × IsRight answer
  planned_there report (Ok p, may, is, reads) = (planned_view p, reads, shown (unwrap_or refine 1) q.flags q.request q.evidence p may.answers)
  planned_there report (Err f, may, is, reads) = absurd cc

  pub read_right : (report : Report) (answer : Answer) → IsPlanOf strict explain refine (Ok q) (Ok report) → answer_of report.text ≡ Ok answer → IsRight answer
  read_right report answer plan read =
      let there = planned_there report plan in
      subst (λ (r : Result Answer PlanFileFault). IfOk r IsRight) (sym there.1 ∙ read) there.2

  pub reads : (report : Report) (e : PlanFileFault) → IsPlanOf strict explain refine (Ok q) (Ok report) → answer_of report.text ≡ Err e → ⊥
  reads report e plan unread =
      let there = planned_there report plan in
      subst (λ (r : Result Answer PlanFileFault). IfErr r (λ f. ⊥)) (sym there.1 ∙ unread) tt

-- a want of memory is told by no file
pub want_alone : (refusal : RolloutRefusal) (c : RolloutCall) → refusal ≡ WantOfMemory c → is_want refusal ≡ false → refusal ≡ unwritable
want_alone refusal c is no_want = absurd (let both : true ≡ false = sym (ap is_want is) ∙ no_want in cc)

module _ (p : Planning) (q : Question) where
  -- it was printed, and its picture written
  pub planned_with : (old new : Option Holding) (o : Outcome) (bytes : List ℕ) → IsPlanOf p.strict p.explain p.refine (Ok q) (Ok (outcome_view o)) → IsPictureOf p.refine q o.text.items bytes → Stores old new p.picture bytes → KeepsOthers old new p.picture
      → IfSome old (λ at. IsPlanWith at new p q (Ok (outcome_view o)))
  planned_with None new o bytes plan picture stores others = tt
  planned_with (Some at) new o bytes plan picture stores others = (plan, (bytes, picture, stores, others))

  -- the picture was refused to be written
  pub unwritten : (old new : Option Holding) (e : Refused) (r : Result Outcome Refused) → r ≡ Err e → (is_want e.refusal ≡ false → e.refusal ≡ unwritable) → new ≡ old → IfSome old (λ at. GivesOne outcome_view r (IsPlanWith at new p q))
  unwritten None new e r is refusal same = tt
  unwritten (Some at) new e r is refusal same = rw is (λ no_want. (inr (refusal no_want), same))

  -- nothing was planned
  pub unplanned : (old new : Option Holding) (e : Refused) (r : Result Outcome Refused) → r ≡ Err e → GivesOne outcome_view (Err e) (IsPlanOf p.strict p.explain p.refine (Ok q)) → new ≡ old → IfSome old (λ at. GivesOne outcome_view r (IsPlanWith at new p q))
  unplanned None new e r is gives same = tt
  unplanned (Some at) new e r is gives same = rw is (λ no_want. (inl (gives no_want), same))

module _ (p : Planning) where
  asked_at : (at : Holding) (new : Option Holding) (q : Question) (r : Result Outcome Refused) → IsQuestionAt p.floats at p.document p.request p.book (Ok q) → GivesOne outcome_view r (IsPlanWith at new p q)
      → GivesOne outcome_view r (IsPlanPicture at new p)
  unfolding IsPlanPicture
  asked_at at new q (Ok o) asked gives = (Ok q, asked, gives)
  asked_at at new q (Err e) asked gives = λ no_want. (Ok q, asked, gives no_want)

  pub asked_of : (old kept new : Option Holding) (q : Question) (r : Result Outcome Refused) → kept ≡ old → IfSome old (λ at. IsQuestionAt p.floats at p.document p.request p.book (Ok q))
      → IfSome kept (λ at. GivesOne outcome_view r (IsPlanWith at new p q)) → IfSome old (λ at. GivesOne outcome_view r (IsPlanPicture at new p))
  asked_of None kept new q r same asked gives = tt
  asked_of (Some at) kept new q r same asked gives =
      asked_at at new q r asked (subst (λ (h : Option Holding). IfSome h (λ it. GivesOne outcome_view r (IsPlanWith it new p q))) same gives)

  unasked_at : (at : Holding) (new : Option Holding) (e : Refused) → GivesOne question_view (Err e) (IsQuestionAt p.floats at p.document p.request p.book) → new ≡ Some at → GivesOne outcome_view (Err e) (IsPlanPicture at new p)
  unfolding IsPlanPicture
  unasked_at at new e asked same = λ no_want. (Err e.refusal, asked no_want, (refl, same))

  pub unasked : (old new : Option Holding) (e : Refused) (r : Result Outcome Refused) → r ≡ Err e → IfSome old (λ at. GivesOne question_view (Err e) (IsQuestionAt p.floats at p.document p.request p.book)) → new ≡ old → IfSome old (λ at. GivesOne outcome_view r (IsPlanPicture at new p))
  unasked None new e r is asked same = tt
  unasked (Some at) new e r is asked same = rw is (unasked_at at new e asked same)

-- ---- what becomes of the files

-- files that a load left as they are
pub left_behind : (old kept new : Option Holding) (path : List ℕ) → kept ≡ old → (new ≡ kept) ⊎ KeepsOthers kept new path → (new ≡ old) ⊎ KeepsOthers old new path
left_behind old kept new path same left = subst (λ (h : Option Holding). (new ≡ h) ⊎ KeepsOthers h new path) same left

pub kept_behind : {E : Type 0} (r : Result Outcome E) (old kept new : Option Holding) → kept ≡ old → KeepsUnlessPlanned kept new r → KeepsUnlessPlanned old new r
kept_behind r old kept new same left = subst (λ (h : Option Holding). KeepsUnlessPlanned h new r) same left

-- ---- the status of a plan

abbrev HasStatus : Result Report RolloutRefusal → Type 0
HasStatus r = IfOk r (λ report. (report.status ≡ 0) ⊎ (report.status ≡ 3))

answer_status : (answer : Answer) → (plan_status answer ≡ 0) ⊎ (plan_status answer ≡ 3)
answer_status (emit rule c) = inl refl
answer_status (none_exists kind names) = inr refl

printed_status : (told : Bool) (answer : Answer) (text : Result (List ℕ) PlanFileFault) → HasStatus (beside told (refused_by PrintPlanned text >>= λ t. Ok (record { text = t; status = plan_status answer; is_told = false })))
printed_status told answer (Ok t) = answer_status answer
printed_status told answer (Err e) = tt

settled_status : (m : ℕ) (explain : Bool) (settled : Result Bool RolloutRefusal) (answer : Answer) → HasStatus (settled >>= λ told. beside ((explain || told) || is_finer m answer) (plan_report answer))
settled_status m explain (Ok told) answer = printed_status ((explain || told) || is_finer m answer) answer (plan_line answer)
settled_status m explain (Err e) answer = tt

planned_status : (m : ℕ) (explain : Bool) (settled : Result Bool RolloutRefusal) (planned : Result Planned RolloutFault) → HasStatus (report_planned m explain settled planned)
planned_status m explain settled (Ok p) = settled_status m explain settled (planned_view p)
planned_status m explain settled (Err f) = tt

-- a plan has a rule or shows that none fits
pub status_of : (strict explain : Bool) (refine : Option ℕ) (q : Question) (report : Report) → IsPlanOf strict explain refine (Ok q) (Ok report) → (report.status ≡ 0) ⊎ (report.status ≡ 3)
status_of strict explain refine q report (planned, may, is, reads) = subst HasStatus (sym is) (planned_status (unwrap_or refine 1) explain (settle call.Plan strict (doubt_of q)) planned)

-- no read failed before the last step
or_false : (b : Bool) → (b || false) ≡ b
or_false true = refl
or_false false = refl

pub failed_behind : (old mid new fault : Bool) → mid ≡ (old || false) → new ≡ (mid || fault) → new ≡ (old || fault)
failed_behind old mid new fault first last = last ∙ ap (λ (b : Bool). b || fault) (first ∙ or_false old)
