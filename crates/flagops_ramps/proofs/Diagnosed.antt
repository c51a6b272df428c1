-- What a person is told of what a command on steps comes to.
use Rattle.std.proofs.Common.{◌≡◌, ◌++◌, ◌||◌, ◌∙◌, ℕ, Bool, List, [], ◌∷◌, Option, Some, None, Result, Ok, Err, IfErr, IfOk, IfSome, inl, inr, refl, sym, ap, subst}
use Rattle.std.specs.Prelude.{true, false, codes, decimal}
use Rattle.flagops_rollouts.specs.Doubts.{NamesDoubt, NamesDoubted}
use Rattle.flagops_files.specs.Lines.{NamesFile}
use Rattle.flagops_rollouts.specs.declared.doubts.NotedDoubt.{NotedDoubt}
use Rattle.flagops_files.specs.Refusal as files
use Rattle.flagops_files.specs.Told.{NamesOne, file}
use Rattle.flagops_rollouts.specs.Refusal as rolling
use Rattle.flagops_rollouts.specs.Subjects.{applied_subjects, is_of_kept_document}
use Rattle.flagops_rollouts.specs.declared.refusal.Doubt.{Doubt}
use Rattle.file_diagnostics.specs.Named.{Names}
use Rattle.flagops_shell.specs.Diagnostic.{Says}
use Rattle.flagops_shell.specs.Ending.{KeepsUnlessDone, Remarks}
use Rattle.flagops_shell.specs.Files.{Holding}
use Rattle.flagops_shell.specs.Report.{Report, outcome_view}
use Rattle.flagops_shell.specs.declared.outcome.Outcome.{Outcome}
use Rattle.flagops_shell.specs.declared.refused.Remark.{Remark}
use Rattle.flagops_shell.specs.declared.refused.Remark.TheVariants.{Short, Lines}
use Rattle.flagops_ramps.specs.Remarks.{TellsKeepAt, TellsRampAt, TellsStepAt, TellsVerdictAt}
use Rattle.flagops_ramps.specs.Attempts.{IsOfFirst, ramp_files, step_files, verify_files}
use Rattle.flagops_ramps.specs.Commands.{keep_told, ramp_told, step_told, verify_told}
use Rattle.flagops_ramps.specs.Diagnostics.{Diagnoses, Diagnosis, IsOfAnswers, IsOfDoubted, IsOfKeep, IsOfRamp, IsOfSize, IsOfStep, IsOfVerify, NamesPath, NamesStep, put_subjects, told_with}
use Rattle.flagops_ramps.specs.Refusal.{is_unread, is_want}
use Rattle.flagops_shell.proofs.Lifted as lifted
use Rattle.rollout.specs.declared.fault.RolloutFault.{RolloutFault}
use Rattle.rollout.specs.declared.verify_fault.VerifyFault.TheVariants as verdict
use Rattle.flagops_ramps.specs.Report.{Told}
use Rattle.flagops_ramps.specs.Words.{Applying, Keeping, Ramping, Verifying}
use Rattle.flagops_ramps.specs.declared.refusal.RampRefusal.{RampRefusal}
use Rattle.flagops_ramps.specs.declared.refusal.RampRefusal.TheVariants as refusal

-- ---- lines

pub name_path : (path lines : List ℕ) → Names path lines → NamesPath path lines
name_path path lines named = inl named

pub file_path : (path lines : List ℕ) → NamesFile path lines → NamesPath path lines
file_path path lines named = inr named

-- a line that names a step of a file names the file
pub step_path : (path : List ℕ) (step : ℕ) (lines : List ℕ) → NamesStep path step lines → NamesPath path lines
step_path path step lines (rest, is) = inr (codes ", step " ++ (decimal step ++ rest), is)

-- ---- doubts

-- what is told of a doubt is of one of the two
pub doubt_said : (steps book : List ℕ) (d : Doubt) (remark : Remark) → Says (NamesDoubt steps book d) remark → Says (NamesDoubted steps book) remark
doubt_said steps book d Short said = tt
doubt_said steps book d (Lines lines) said = (d, said)

-- what is told of a doubt beside each request is told beside this one
pub for_request : (request book : List ℕ) (o : Option NotedDoubt) → IfSome o (λ d. (r : List ℕ) → Says (NamesDoubt r book d.doubt) d.remark) → IfSome o (λ d. Says (NamesDoubt request book d.doubt) d.remark)
for_request request book None told = tt
for_request request book (Some d) told = told request

-- ---- refusals

-- memory that ran out is told of nothing
pub wanting : (Is : Diagnosis) (t : Told) → is_want t.refusal ≡ true → is_want t.refusal ≡ false → Is t.refusal t.remark
wanting Is t want no_want = absurd (let both : true ≡ false = sym want ∙ no_want in cc)

-- a file could not be read as every other command sees it
pub failed_load : (old new : Bool) (t : Told) (e : files.Refused) → t.refusal ≡ refusal.Load e.refusal → new ≡ (old || files.is_unread e.refusal) → new ≡ (old || is_unread t.refusal)
failed_load old new t e is failed = failed ∙ ap (λ b. old || b) (sym (ap is_unread is))

-- answers that are no answers
pub of_answers : (v : Verifying) (e : RampRefusal) (remark : Remark) → IsOfAnswers v.ramp e remark → IsOfVerify v e remark
of_answers v (refusal.Load e) remark named = absurd named
of_answers v (refusal.Read f) remark named = named
of_answers v (refusal.Ramp f) remark named = absurd named
of_answers v (refusal.Print f) remark named = absurd named
of_answers v (refusal.Verify f) remark named = absurd named
of_answers v refusal.Lines remark named = absurd named
of_answers v refusal.NoStep remark named = absurd named
of_answers v refusal.OtherRule remark named = absurd named
of_answers v (refusal.Rollout e) remark named = absurd named
of_answers v (refusal.Doubted c d) remark named = absurd named

pub step_answers : (a : Applying) (e : RampRefusal) (remark : Remark) → IsOfAnswers a.ramp e remark → IsOfStep a e remark
step_answers a (refusal.Load e) remark named = absurd named
step_answers a (refusal.Read f) remark named = named
step_answers a (refusal.Ramp f) remark named = absurd named
step_answers a (refusal.Print f) remark named = absurd named
step_answers a (refusal.Verify f) remark named = absurd named
step_answers a refusal.Lines remark named = absurd named
step_answers a refusal.NoStep remark named = absurd named
step_answers a refusal.OtherRule remark named = absurd named
step_answers a (refusal.Rollout e) remark named = absurd named
step_answers a (refusal.Doubted c d) remark named = absurd named

-- answers that are doubted, or too large
pub ramp_doubted : (a : Ramping) (e : RampRefusal) (remark : Remark) → IsOfDoubted a.steps a.book e remark → IsOfRamp a e remark
ramp_doubted a (refusal.Doubted c d) remark named = named
ramp_doubted a (refusal.Load e) remark named = absurd named
ramp_doubted a (refusal.Ramp f) remark named = absurd named
ramp_doubted a (refusal.Print f) remark named = absurd named
ramp_doubted a (refusal.Read f) remark named = absurd named
ramp_doubted a (refusal.Verify f) remark named = absurd named
ramp_doubted a refusal.Lines remark named = absurd named
ramp_doubted a refusal.NoStep remark named = absurd named
ramp_doubted a refusal.OtherRule remark named = absurd named
ramp_doubted a (refusal.Rollout e) remark named = absurd named

pub verify_doubted : (v : Verifying) (e : RampRefusal) (remark : Remark) → IsOfDoubted v.rollout.steps v.rollout.book e remark → IsOfVerify v e remark
verify_doubted v (refusal.Doubted c d) remark named = named
verify_doubted v (refusal.Load e) remark named = absurd named
verify_doubted v (refusal.Ramp f) remark named = absurd named
verify_doubted v (refusal.Print f) remark named = absurd named
verify_doubted v (refusal.Read f) remark named = absurd named
verify_doubted v (refusal.Verify f) remark named = absurd named
verify_doubted v refusal.Lines remark named = absurd named
verify_doubted v refusal.NoStep remark named = absurd named
verify_doubted v refusal.OtherRule remark named = absurd named
verify_doubted v (refusal.Rollout e) remark named = absurd named

pub ramp_large : (a : Ramping) (e : RampRefusal) (remark : Remark) → IsOfSize e remark → IsOfRamp a e remark
ramp_large a (refusal.Print f) remark named = named
ramp_large a (refusal.Load e) remark named = absurd named
ramp_large a (refusal.Ramp f) remark named = absurd named
ramp_large a (refusal.Read f) remark named = absurd named
ramp_large a (refusal.Verify f) remark named = absurd named
ramp_large a refusal.Lines remark named = absurd named
ramp_large a refusal.NoStep remark named = absurd named
ramp_large a refusal.OtherRule remark named = absurd named
ramp_large a (refusal.Rollout e) remark named = absurd named
ramp_large a (refusal.Doubted c d) remark named = absurd named

-- steps that are refused before their answers are judged
pub verify_steps : (v : Verifying) (t : Told) (f : RolloutFault) → t.refusal ≡ refusal.Verify (verdict.Request f) → Says (NamesPath v.rollout.steps) t.remark → IsOfVerify v t.refusal t.remark
verify_steps v t f is said = subst (λ (x : RampRefusal). IsOfVerify v x t.remark) (sym is) said

-- a step that is refused
pub ramp_refused : (a : Ramping) (t : Told) (f : RolloutFault) → t.refusal ≡ refusal.Ramp f → Says (NamesPath a.steps) t.remark → IsOfRamp a t.refusal t.remark
ramp_refused a t f is said = subst (λ (x : RampRefusal). IsOfRamp a x t.remark) (sym is) said

pub ramp_read : (t : Told) (f : RolloutFault) → t.refusal ≡ refusal.Ramp f → is_unread t.refusal ≡ false
ramp_read t f is = ap is_unread is

-- lines that name a step, told
pub step_said : (path : List ℕ) (step : ℕ) (remark : Remark) → Says (NamesStep path step) remark → Says (NamesPath path) remark
step_said path step Short said = tt
step_said path step (Lines lines) said = step_path path step _ said

-- ---- a document with the rule of a step

-- what refuses answers refuses to put one
pub keep_wrong : (k : Keeping) (e : RampRefusal) (remark : Remark) → IsOfVerify k.answered e remark → IsOfKeep k e remark
keep_wrong k (refusal.Load e) remark named = absurd named
keep_wrong k (refusal.Ramp f) remark named = named
keep_wrong k (refusal.Print f) remark named = named
keep_wrong k (refusal.Read f) remark named = named
keep_wrong k (refusal.Verify f) remark named = named
keep_wrong k refusal.Lines remark named = named
keep_wrong k refusal.NoStep remark named = absurd named
keep_wrong k refusal.OtherRule remark named = absurd named
keep_wrong k (refusal.Rollout e) remark named = absurd named
keep_wrong k (refusal.Doubted c d) remark named = named

pub keep_answers : (k : Keeping) (e : RampRefusal) (remark : Remark) → IsOfAnswers k.answered.ramp e remark → IsOfKeep k e remark
keep_answers k e remark named = keep_wrong k e remark (of_answers k.answered e remark named)

pub keep_steps : (k : Keeping) (t : Told) (f : RolloutFault) → t.refusal ≡ refusal.Verify (verdict.Request f) → Says (NamesPath k.answered.rollout.steps) t.remark → IsOfKeep k t.refusal t.remark
keep_steps k t f is said = keep_wrong k t.refusal t.remark (verify_steps k.answered t f is said)

pub keep_doubted : (k : Keeping) (e : RampRefusal) (remark : Remark) → IsOfDoubted k.answered.rollout.steps k.answered.rollout.book e remark → IsOfKeep k e remark
keep_doubted k e remark named = keep_wrong k e remark (verify_doubted k.answered e remark named)

-- what `apply` refuses of a step
pub step_rolled : (a : Applying) (t : Told) (e : rolling.Refused) → t.refusal ≡ refusal.Rollout e.refusal → t.remark ≡ e.remark → (rolling.is_want e.refusal ≡ false → NamesOne (applied_subjects a.document a.ramp) e.refusal e.remark) → is_want t.refusal ≡ false
    → IsOfStep a t.refusal t.remark
step_rolled a t e is same named no_want =
    let wanted = lifted.not_want rolling.is_want is_want refusal.Rollout (λ x. refl) e t is no_want in
    subst (λ (x : RampRefusal). IsOfStep a x t.remark) (sym is) (subst (λ (m : Remark). NamesOne (applied_subjects a.document a.ramp) e.refusal m) (sym same) (named wanted))

-- no file could not be read where it was refused so
pub rolled_read : (t : Told) (e : rolling.Refused) → t.refusal ≡ refusal.Rollout e.refusal → rolling.is_unread e.refusal ≡ false → is_unread t.refusal ≡ false
rolled_read t e is read = ap is_unread is ∙ read

-- what refuses to put a rule is told as `apply --keep` tells it
rolled : (k : Keeping) (t : Told) (e : rolling.Refused) → t.refusal ≡ refusal.Rollout e.refusal → t.remark ≡ e.remark → (rolling.is_want e.refusal ≡ false → NamesOne (put_subjects k) e.refusal e.remark) → is_want t.refusal ≡ false → IsOfKeep k t.refusal t.remark
rolled k t e is same named no_want =
    let wanted = lifted.not_want rolling.is_want is_want refusal.Rollout (λ x. refl) e t is no_want in
    subst (λ (x : RampRefusal). IsOfKeep k x t.remark) (sym is) (subst (λ (m : Remark). NamesOne (put_subjects k) e.refusal m) (sym same) (named wanted))

pub keep_rolled : (k : Keeping) (t : Told) (e : rolling.Refused) → t.refusal ≡ refusal.Rollout e.refusal → t.remark ≡ e.remark → (rolling.is_want e.refusal ≡ false → NamesOne (put_subjects k) e.refusal e.remark) → is_want t.refusal ≡ false
    → IsOfKeep k t.refusal t.remark
keep_rolled = rolled

pub keep_stored : (k : Keeping) (t : Told) (e : rolling.Refused) → t.refusal ≡ refusal.Rollout e.refusal → t.remark ≡ e.remark
    → (rolling.is_want e.refusal ≡ false → NamesOne ((file k.answered.rollout.document, is_of_kept_document) ∷ []) e.refusal e.remark) → is_want t.refusal ≡ false → IsOfKeep k t.refusal t.remark
keep_stored k t e is same named = rolled k t e is same (λ wanted. inr (named wanted))

pub failed_put : (old new : Bool) (t : Told) (e : rolling.Refused) → t.refusal ≡ refusal.Rollout e.refusal → new ≡ (old || rolling.is_unread e.refusal) → new ≡ (old || is_unread t.refusal)
failed_put old new t e is failed = failed ∙ ap (λ b. old || b) (sym (ap is_unread is))

-- ---- what a command tells of what it comes to

module _ (Notes : List ℕ → Type 0) (Beside : Holding → Report → Option Remark → Type 0) (Is : Holding → Diagnosis) where
  remarks_with : (files : Option Holding) (r : Result Outcome Told) → IfSome files (λ at. Diagnoses (Is at) r) → IfOk r (λ o. IfSome o.remark (Says Notes)) → IfSome files (λ at. IfOk r (λ o. Beside at (outcome_view o) o.remark))
      → IfSome files (λ at. Remarks is_want (told_with Notes (λ report remark. Beside at report (Some remark)) (Is at)) r)
  remarks_with None r names notes beside = tt
  remarks_with (Some at) (Ok o) names notes beside = λ remark is. (subst (λ (m : Option Remark). IfSome m (Says Notes)) is notes, subst (Beside at (outcome_view o)) is beside)
  remarks_with (Some at) (Err t) names notes beside = names

pub ramp_remarks : (a : Ramping) (files : Option Holding) (r : Result Outcome Told) → IfSome files (λ at. Diagnoses (IsOfFirst (ramp_files at a) (IsOfRamp a)) r) → IfOk r (λ o. IfSome o.remark (Says (NamesDoubted a.steps a.book)))
    → IfSome files (λ at. IfOk r (λ o. TellsRampAt at a o.text.items o.remark)) → IfSome files (λ at. Remarks is_want (ramp_told a at) r)
ramp_remarks a files r names notes parts = remarks_with (NamesDoubted a.steps a.book) (λ at report told. TellsRampAt at a report.text told) (λ at. IsOfFirst (ramp_files at a) (IsOfRamp a)) files r names notes parts

pub verify_remarks : (v : Verifying) (files : Option Holding) (r : Result Outcome Told) → IfSome files (λ at. Diagnoses (IsOfFirst (verify_files at v) (IsOfVerify v)) r) → IfOk r (λ o. IfSome o.remark (Says (NamesDoubted v.rollout.steps v.rollout.book)))
    → IfSome files (λ at. IfOk r (λ o. TellsVerdictAt at v o.remark)) → IfSome files (λ at. Remarks is_want (verify_told v at) r)
verify_remarks v files r names notes parts = remarks_with (NamesDoubted v.rollout.steps v.rollout.book) (λ at report told. TellsVerdictAt at v told) (λ at. IsOfFirst (verify_files at v) (IsOfVerify v)) files r names notes parts

pub keep_remarks : (k : Keeping) (files : Option Holding) (r : Result Outcome Told) → IfSome files (λ at. Diagnoses (IsOfFirst (verify_files at k.answered) (IsOfKeep k)) r)
    → IfOk r (λ o. IfSome o.remark (Says (NamesDoubted k.answered.rollout.steps k.answered.rollout.book))) → IfSome files (λ at. IfOk r (λ o. TellsKeepAt at k o.remark)) → IfSome files (λ at. Remarks is_want (keep_told k at) r)
keep_remarks k files r names notes parts =
    remarks_with (NamesDoubted k.answered.rollout.steps k.answered.rollout.book) (λ at report told. TellsKeepAt at k told) (λ at. IsOfFirst (verify_files at k.answered) (IsOfKeep k)) files r names notes parts

pub step_remarks : (a : Applying) (files : Option Holding) (r : Result Outcome Told) → IfSome files (λ at. Diagnoses (IsOfFirst (step_files at a) (IsOfStep a)) r) → IfOk r (λ o. IfSome o.remark (Says (Names a.document)))
    → IfSome files (λ at. IfOk r (λ o. TellsStepAt at a o.remark)) → IfSome files (λ at. Remarks is_want (step_told a at) r)
step_remarks a files r names notes parts = remarks_with (Names a.document) (λ at report told. TellsStepAt at a told) (λ at. IsOfFirst (step_files at a) (IsOfStep a)) files r names notes parts

-- each want of memory is reported by the command's name
pub wants : {X E : Type 0} (name : List ℕ) (r : Result X E) → IfErr r (λ e. name ≡ name)
wants name (Ok x) = tt
wants name (Err e) = refl

-- files that stay
pub all_kept : {E : Type 0} (old new : Option Holding) (r : Result Outcome E) → new ≡ old → KeepsUnlessDone old new r
all_kept old new r same = inl same
