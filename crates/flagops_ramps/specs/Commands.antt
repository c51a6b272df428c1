-- What is known of each command on steps.
use Rattle.std.specs.Prelude.{◌≡◌, List, ℕ, Option, Some, codes}
use Rattle.clap.specs.Kinds.{Kinds}
use Rattle.clap.specs.Walk.{Text}
use Rattle.flagops_rollouts.specs.Doubts.{NamesDoubted}
use Rattle.flagops_rollouts.specs.Keep.{LeavesDocument}
use Rattle.flagops_shell.specs.Diagnostic.{RemarksOf}
use Rattle.flagops_shell.specs.Files.{Holding}
use Rattle.flagops_shell.specs.Running.{Description}
use Rattle.file_diagnostics.specs.Named.{Names}
use Rattle.flagops_ramps.specs.Apply.{IsStepReport}
use Rattle.flagops_ramps.specs.Attempts.{IsOfFirst, ramp_files, step_files, verify_files}
use Rattle.flagops_ramps.specs.Diagnostics.{IsOfKeep, IsOfRamp, IsOfStep, IsOfVerify, told_with}
use Rattle.flagops_ramps.specs.Keep.{IsKeepReport}
use Rattle.flagops_ramps.specs.Ramp.{IsRampReport}
use Rattle.flagops_ramps.specs.Remarks.{TellsKeepAt, TellsRampAt, TellsStepAt, TellsVerdictAt}
use Rattle.flagops_ramps.specs.Report.{Came}
use Rattle.flagops_ramps.specs.Verify.{IsVerdictReport}
use Rattle.flagops_ramps.specs.Words.{Applying, Keeping, Ramping, Verifying, keep_by, keep_faults, ramp_by, ramp_faults, step_by, step_faults, verify_by, verify_faults}
use Rattle.flagops_ramps.specs.declared.refusal.RampRefusal.{RampRefusal}

-- a command that leaves all files as they are, and reports each want of memory by its own name
abbrev pub reading : {A : Type 0} → List ℕ → (List Text → Option A) → (List Text → Kinds) → (A → Holding → Came → Type 0) → (A → Holding → RemarksOf RampRefusal) → Description A RampRefusal
reading name asked_by faults_of MayCome MayTell = record {
  asked_by = asked_by;
  faults_of = faults_of;
  MayCome = λ a at after. MayCome a at;
  MayTell = λ a at. MayTell a at;
  call_of = λ a e. name;
  MayWant = λ a call. call ≡ name;
  MayLeave = λ a old new. new ≡ old;
  IsDone = λ status. status ≡ 0;
}

-- what a person is told of each command: of a refusal the first of its files that is refused, or why what is made of them is; and beside a report what is doubted, and more
abbrev pub ramp_told : Ramping → Holding → RemarksOf RampRefusal
ramp_told a at = told_with (NamesDoubted a.steps a.book) (λ report remark. TellsRampAt at a report.text (Some remark)) (IsOfFirst (ramp_files at a) (IsOfRamp a))

abbrev pub verify_told : Verifying → Holding → RemarksOf RampRefusal
verify_told v at = told_with (NamesDoubted v.rollout.steps v.rollout.book) (λ report remark. TellsVerdictAt at v (Some remark)) (IsOfFirst (verify_files at v) (IsOfVerify v))

abbrev pub step_told : Applying → Holding → RemarksOf RampRefusal
step_told a at = told_with (Names a.document) (λ report remark. TellsStepAt at a (Some remark)) (IsOfFirst (step_files at a) (IsOfStep a))

abbrev pub keep_told : Keeping → Holding → RemarksOf RampRefusal
keep_told k at =
    told_with (NamesDoubted k.answered.rollout.steps k.answered.rollout.book) (λ report remark. TellsKeepAt at k (Some remark)) (IsOfFirst (verify_files at k.answered) (IsOfKeep k))

abbrev pub ramp_description : Description Ramping RampRefusal
ramp_description = reading (codes "ramp") ramp_by ramp_faults (λ a at. IsRampReport at a) ramp_told

abbrev pub verify_description : Description Verifying RampRefusal
verify_description = reading (codes "verify-ramp") verify_by verify_faults (λ v at. IsVerdictReport at v) verify_told

abbrev pub step_description : Description Applying RampRefusal
step_description = reading (codes "apply") step_by step_faults (λ a at. IsStepReport at a) step_told

-- `apply --step --keep`, which changes the document alone, and only where it is to be written and nothing is refused
abbrev pub keep_description : Description Keeping RampRefusal
keep_description = record {
  asked_by = keep_by;
  faults_of = keep_faults;
  MayCome = λ k at after. IsKeepReport at after k;
  MayTell = λ k at. keep_told k at;
  call_of = λ k e. codes "apply";
  MayWant = λ k call. call ≡ codes "apply";
  MayLeave = λ k old new. LeavesDocument old new k.answered.rollout.document k.write;
  IsDone = λ status. status ≡ 0;
}
