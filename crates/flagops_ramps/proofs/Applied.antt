-- What comes of a step that is applied.
use Rattle.std.proofs.Common.{◌≡◌, ◌≤◌, ◌-◌, false, ℕ, zero, suc, List, Bor, Option, None, Some, Result, Ok, Err, length, map, option_map, slice_get, refl, ap, ◌∙◌, subst, sym, arith}
use Rattle.std.specs.Prelude.{IfSome}
use Rattle.std.specs.Slice.{IsItemAt}
use Rattle.std.proofs.lemmas.Option.{slice_get-map, slice_get_past, slice_get_read}
use Rattle.flag_defs.specs.Flags.{flags_view}
use Rattle.flag_defs.specs.Document.{Definitions}
use Rattle.flag_defs.specs.Floats.{AreMarkedAs, Marks}
use Rattle.flagops_rollouts.specs.Apply.{IsLocalReport, told_report}
use Rattle.flagops_rollouts.specs.Refusal as rolling
use Rattle.flagops_files.specs.Documents.{IsDocumentAs}
use Rattle.flagops_files.specs.Loading.{max_text}
use Rattle.flagops_shell.specs.Files.{Holding, load_of}
use Rattle.flagops_files.specs.Refusal as files
use Rattle.flagops_shell.proofs.Lifted as lifted
use Rattle.flagops_shell.specs.Report.{outcome_view}
use Rattle.flagops_shell.specs.declared.outcome.Outcome.{Outcome}
use Rattle.flagops_files.specs.Refusal.{Refused}
use Rattle.plan_text.specs.Answer.{Answer, planned_view}
use Rattle.plan_text.specs.declared.planned.Planned.{Planned}
use Rattle.flagops_ramps.specs.Apply.{IsStepOver, IsStepPut, IsStepReport, answer_to}
use Rattle.flagops_ramps.specs.Refusal.{is_want}
use Rattle.flagops_ramps.specs.Report.{GivesOne, Told}
use Rattle.flagops_ramps.specs.Judging.{answers_at}
use Rattle.flagops_ramps.specs.Words.{Applying}
use Rattle.flagops_ramps.specs.declared.refusal.RampRefusal.{RampRefusal}
use Rattle.flagops_ramps.specs.declared.refusal.RampRefusal.TheVariants.{Load, NoStep, Rollout}
use Rattle.flagops_ramps.proofs.Loaded.{not_want}

module _ (a : Applying) where
  unread_at : (at : Holding) (e : Refused) (t : Told) → t.refusal ≡ Load e.refusal → files.GivesOne flags_view (Err e) (IsDocumentAs a.floats at a.document) → GivesOne outcome_view (Err t) (IsStepReport at a)
  unfolding IsStepReport
  unread_at at e t is asked = λ no_want. (Err e.refusal, asked (not_want t e is no_want), ap Err is)

  pub unread : (holding : Option Holding) (e : Refused) (t : Told) → t.refusal ≡ Load e.refusal → IfSome holding (λ at. files.GivesOne flags_view (Err e) (IsDocumentAs a.floats at a.document)) → IfSome holding (λ at. GivesOne outcome_view (Err t) (IsStepReport at a))
  unread None e t is asked = tt
  unread (Some at) e t is asked = unread_at at e t is asked

  module _ (document : List ℕ) (flags : Definitions) (marks : Marks) where
    read_at : (at : Holding) (r : Result Outcome Told) → AreMarkedAs a.floats document flags marks → IsDocumentAs a.floats at a.document (Ok flags) → load_of at a.document max_text ≡ Ok document → GivesOne outcome_view r (IsStepOver a document flags marks (answers_at at a.ramp)) → GivesOne outcome_view r (IsStepReport at a)
    unfolding IsStepReport
    read_at at (Ok o) marked asked bytes gives = (Ok flags, asked, (document, bytes, marks, marked, gives))
    read_at at (Err t) marked asked bytes gives = λ no_want. (Ok flags, asked, (document, bytes, marks, marked, gives no_want))

    pub read : (old kept : Option Holding) (r : Result Outcome Told) → AreMarkedAs a.floats document flags marks → kept ≡ old → IfSome old (λ at. IsDocumentAs a.floats at a.document (Ok flags)) → IfSome old (λ at. load_of at a.document max_text ≡ Ok document)
        → IfSome kept (λ at. GivesOne outcome_view r (IsStepOver a document flags marks (answers_at at a.ramp))) → IfSome old (λ at. GivesOne outcome_view r (IsStepReport at a))
    read None kept r marked same asked bytes gives = tt
    read (Some at) kept r marked same asked bytes gives = read_at at r marked asked bytes (subst (λ (h : Option Holding). IfSome h (λ it. GivesOne outcome_view r (IsStepOver a document flags marks (answers_at it a.ramp)))) same gives)

    -- answers that were not read
    pub unanswered : (holding : Option Holding) (t : Told) → IfSome holding (λ at. is_want t.refusal ≡ false → answers_at at a.ramp ≡ Err t.refusal) → IfSome holding (λ at. GivesOne outcome_view (Err t) (IsStepOver a document flags marks (answers_at at a.ramp)))
    unanswered None t answers = tt
    unanswered (Some at) t answers = λ no_want. subst (λ (x : Result (List Answer) RampRefusal). IsStepOver a document flags marks x (Err t.refusal)) (sym (answers no_want)) refl

    -- answers that were read
    pub answered_so : (holding : Option Holding) (answers : List Answer) (r : Result Outcome Told) → IfSome holding (λ at. answers_at at a.ramp ≡ Ok answers) → GivesOne outcome_view r (IsStepOver a document flags marks (Ok answers))
        → IfSome holding (λ at. GivesOne outcome_view r (IsStepOver a document flags marks (answers_at at a.ramp)))
    answered_so None answers r is gives = tt
    answered_so (Some at) answers r is gives = subst (λ (x : Result (List Answer) RampRefusal). GivesOne outcome_view r (IsStepOver a document flags marks x)) (sym is) gives

    -- the answer to the step, which is put
    pub put_so : (answers : List Answer) (answer : Answer) (o : Outcome) → Some answer ≡ answer_to answers a.step → told_report a.floats document flags marks a.key a.site a.strict answer ≡ Ok (outcome_view o) → IsLocalReport a.floats flags marks a.key a.site answer (outcome_view o)
        → IsStepOver a document flags marks (Ok answers) (Ok (outcome_view o))
    put_so answers answer o is gives local = subst (λ (x : Option Answer). IsStepPut a document flags marks x (Ok (outcome_view o))) is (Ok (outcome_view o), (sym gives, local), refl)

    -- or is refused
    pub refused_so : (answers : List Answer) (answer : Answer) (e : rolling.Refused) (t : Told) → t.refusal ≡ Rollout e.refusal → Some answer ≡ answer_to answers a.step
        → (rolling.is_want e.refusal ≡ false → told_report a.floats document flags marks a.key a.site a.strict answer ≡ Err e.refusal) → is_want t.refusal ≡ false → IsStepOver a document flags marks (Ok answers) (Err t.refusal)
    refused_so answers answer e t same is gives no_want =
        let wanted = lifted.not_want rolling.is_want is_want Rollout (λ x. refl) e t same no_want in
        subst (λ (x : Option Answer). IsStepPut a document flags marks x (Err t.refusal)) is (Err e.refusal, (sym (gives wanted), tt), ap Err same)

    -- there is none
    pub no_step : (answers : List Answer) → None ≡ answer_to answers a.step → IsStepOver a document flags marks (Ok answers) (Err NoStep)
    no_step answers is = subst (λ (o : Option Answer). IsStepPut a document flags marks o (Err NoStep)) is refl

-- ---- the answer to a step, by its number

at_place : (xs : List Planned) (place : ℕ) (r : Option (Bor Planned)) → IsItemAt xs place r → option_map (λ p. planned_view p.now) r ≡ slice_get (map planned_view xs) place
at_place xs place None item = sym (slice_get-map planned_view xs place ∙ ap (option_map planned_view) (slice_get_past xs place item.3))
at_place xs place (Some x) item = sym (slice_get-map planned_view xs place ∙ ap (option_map planned_view) (slice_get_read xs (length xs) place x.now refl item.3.0 item.1))

pub answer_before : (xs : List Planned) (step before : ℕ) (r : Option (Bor Planned)) → 1 ≤ step → before ≡ step - 1 → IsItemAt xs before r → option_map (λ p. planned_view p.now) r ≡ answer_to (map planned_view xs) step
answer_before xs zero before r above is item = absurd (omega (arith, above))
answer_before xs (suc n) before r above is item =
    let same : before ≡ n = omega (arith, is) in
    at_place xs before r item ∙ ap (slice_get (map planned_view xs)) same
