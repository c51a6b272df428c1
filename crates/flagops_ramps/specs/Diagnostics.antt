-- What a person is told of what a command on steps comes to: of a refusal by the name of what was refused, and beside a report of what is doubted.
use Rattle.std.specs.Prelude.{◌≡◌, ◌⊎◌, ◌++◌, ℕ, false, List, [], ◌∷◌, Result, Ok, Err, codes, decimal}
use Rattle.flag_text.specs.Printing.{text_of}
use Rattle.flag_text.specs.Shape.{text}
use Rattle.flagops_rollouts.specs.Doubts.{NamesDoubt}
use Rattle.flagops_files.specs.Lines.{NamesFile}
use Rattle.flagops_rollouts.specs.Subjects.{applied_subjects, is_of_kept_answer, is_of_kept_document, the_plan}
use Rattle.flagops_rollouts.specs.Refusal as rolling
use Rattle.flagops_files.specs.Told.{NamesOne, file}
use Rattle.file_diagnostics.specs.Named.{Names, NamesWord}
use Rattle.flagops_shell.specs.Diagnostic.{RemarksOf, Says}
use Rattle.flagops_shell.specs.Report.{Report}
use Rattle.flagops_shell.specs.declared.refused.Remark.{Remark}
use Rattle.rollout.specs.declared.verify_fault.VerifyFault.{VerifyFault}
use Rattle.rollout.specs.declared.verify_fault.VerifyFault.TheVariants.{Check, Request}
use Rattle.flagops_ramps.specs.Refusal.{is_want}
use Rattle.flagops_ramps.specs.Report.{Told}
use Rattle.flagops_ramps.specs.Words.{Applying, Keeping, Ramping, Verifying}
use Rattle.flagops_ramps.specs.declared.refusal.RampRefusal.{RampRefusal}
use Rattle.flagops_ramps.specs.declared.refusal.RampRefusal.TheVariants.{Rollout, Ramp, Print, Read, Verify, Lines, NoStep, OtherRule, Doubted}

-- lines begin with the path of a file as a JSON text, or with what is shown of a long one
abbrev pub NamesPath : List ℕ → List ℕ → Type 0
NamesPath path lines = Names path lines ⊎ NamesFile path lines

-- the line begins with the path, as a JSON text, and the number of the step
abbrev pub NamesStep : List ℕ → ℕ → List ℕ → Type 0
NamesStep path step line = (rest : List ℕ) × (line ≡ codes "error: " ++ (text_of (text path) ++ (codes ", step " ++ (decimal step ++ rest))))

-- a remark on each refusal
abbrev pub Diagnosis : Type 1
Diagnosis = RampRefusal → Remark → Type 0

-- a refusal that was returned has such a remark, unless memory ran out
abbrev pub Diagnoses : {X : Type 0} → Diagnosis → Result X Told → Type 0
Diagnoses Is (Ok x) = Unit {0}
Diagnoses Is (Err t) = is_want t.refusal ≡ false → Is t.refusal t.remark

-- bytes at a path that are no answers are refused by its path
abbrev pub IsOfAnswers : List ℕ → Diagnosis
IsOfAnswers path (Read e) remark = Says (NamesPath path) remark
IsOfAnswers path e remark = ⊥

-- what is refused for a doubt is refused by the file of the steps, or by the book
abbrev pub IsOfDoubted : List ℕ → List ℕ → Diagnosis
IsOfDoubted steps book (Doubted c d) remark = Says (NamesDoubt steps book d) remark
IsOfDoubted steps book e remark = ⊥

-- answers that are too large to be printed are refused as the plan
abbrev pub IsOfSize : Diagnosis
IsOfSize (Print e) remark = Says (NamesWord the_plan) remark
IsOfSize e remark = ⊥

-- ---- by command

-- `ramp` is refused, over its files, by the steps or one of them, for the size of its answers, or for what is doubted of them
abbrev pub IsOfRamp : Ramping → Diagnosis
IsOfRamp a (Ramp e) remark = Says (NamesPath a.steps) remark
IsOfRamp a (Print e) remark = Says (NamesWord the_plan) remark
IsOfRamp a (Doubted c d) remark = Says (NamesDoubt a.steps a.book d) remark
IsOfRamp a e remark = ⊥

-- answers are refused by the file of the steps, where a step is refused, and else by their own
abbrev pub judged_path : Verifying → VerifyFault → List ℕ
judged_path v (Request e) = v.rollout.steps
judged_path v (Check e) = v.ramp

-- `verify-ramp` is refused, over its files, by answers that are none or not right, or for what is doubted of them
abbrev pub IsOfVerify : Verifying → Diagnosis
IsOfVerify v (Read e) remark = Says (NamesPath v.ramp) remark
IsOfVerify v (Verify e) remark = Says (NamesPath (judged_path v e)) remark
IsOfVerify v Lines remark = Says (NamesPath v.ramp) remark
IsOfVerify v (Doubted c d) remark = Says (NamesDoubt v.rollout.steps v.rollout.book d) remark
IsOfVerify v e remark = ⊥

-- `apply --step` is refused, over its files, by answers that are none, by the step that they lack, or as `apply` is
abbrev pub IsOfStep : Applying → Diagnosis
IsOfStep a (Rollout e) remark = NamesOne (applied_subjects a.document a.ramp) e remark
IsOfStep a (Read e) remark = Says (NamesPath a.ramp) remark
IsOfStep a NoStep remark = Says (NamesStep a.ramp a.step) remark
IsOfStep a e remark = ⊥

-- a rule that is not put into the document is refused by its own file, or by the document
abbrev pub put_subjects : Keeping → rolling.Subjects
put_subjects k = (file k.answered.ramp, is_of_kept_answer) ∷ (file k.answered.rollout.document, is_of_kept_document) ∷ []

-- `apply --step --keep` is refused as `verify-ramp` is, by the step that its answers lack, by the rule that the document has, or where the new one is put
abbrev pub IsOfKeep : Keeping → Diagnosis
IsOfKeep k (Rollout e) remark = NamesOne (put_subjects k) e remark
IsOfKeep k NoStep remark = Says (NamesStep k.answered.ramp k.step) remark
IsOfKeep k OtherRule remark = Says (NamesPath k.answered.rollout.document) remark
IsOfKeep k e remark = IsOfVerify k.answered e remark

-- what is told of what a command comes to: such lines beside a report, and such a remark on a refusal
abbrev pub told_with : (List ℕ → Type 0) → (Report → Remark → Type 0) → Diagnosis → RemarksOf RampRefusal
told_with Notes Beside Is (Ok report) remark = Says Notes remark × Beside report remark
told_with Notes Beside Is (Err e) remark = Is e remark
