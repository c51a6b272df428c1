-- What a person is told beside the reports of rollouts in steps.
use Rattle.std.proofs.Common.{inl, inr, ℕ, Bool, List, map, Option, Some, Result, Ok, Err}
use Rattle.flagops_files.specs.Documents.{IsDocumentAs}
use Rattle.flagops_files.specs.Refusal.{Attempts}
use Rattle.flagops_files.specs.Told.{file, within}
use Rattle.flagops_ramps.specs.Attempts as ramping
use Rattle.flagops_ramps.specs.Attempts.{IsOfFirst}
use Rattle.flagops_ramps.specs.Commands.{keep_told, ramp_told, step_told, verify_told}
use Rattle.flagops_ramps.specs.Diagnostics.{Diagnosis, IsOfKeep, IsOfRamp, IsOfStep, IsOfVerify}
use Rattle.flagops_ramps.specs.Remarks.{TellsKeepAt, TellsKeepFrom, TellsRampAt, TellsRampOf, TellsStepAt, TellsStepFrom, TellsStepOf, TellsVerdictAt}
use Rattle.flagops_ramps.specs.Words.{Applying, Keeping, Ramping, Verifying}
use Rattle.flagops_ramps.specs.declared.refusal.RampRefusal.{RampRefusal}
use Rattle.flagops_ramps.specs.declared.refusal.RampRefusal.TheVariants as ramp
use Rattle.flagops_shell.specs.Files.{Holding}
use Rattle.flagops_shell.specs.Report.{Report}
use Rattle.flagops_shell.specs.declared.refused.Remark.{Remark}
use Rattle.rollout.specs.declared.verify_fault.VerifyFault.TheVariants as verdict
use Rattle.product_laws.specs.Documents.{MeaningsStay, TreesStay}
use Rattle.product_laws.specs.Ramps.{verified_as}
use Rattle.product_laws.specs.Whole.{IsWholeAt}
use Rattle.product_laws.proofs.Attempted.{AreLike, all_so, all_within, attempt_so, first_so, question_like, themselves, with_more}
use Rattle.product_laws.proofs.Read.{document_so, question_so}
use Rattle.product_laws.proofs.Told.{parts_so}

-- a refusal is one of the same files, or the same of what they make
of_first : (reads others : Attempts) → AreLike reads others → (Is Other : Diagnosis) → ((e : RampRefusal) (remark : Remark) → Is e remark → Other e remark) → (e : RampRefusal) (remark : Remark)
    → IsOfFirst reads Is e remark → IsOfFirst others Other e remark
of_first reads others like Is Other more e remark (inl h) = inl (first_so (map (within ramp.Load) reads) (map (within ramp.Load) others) (all_within ramp.Load reads others like) e remark h)
of_first reads others like Is Other more e remark (inr h) = inr (all_so reads others like h.0, more e remark h.1)

module _ (other : Bool) where
  of_ramp : (a : Ramping) (e : RampRefusal) (remark : Remark) → IsOfRamp a e remark → IsOfRamp (record a { floats = other }) e remark
  of_ramp a (ramp.Ramp e) remark h = h
  of_ramp a (ramp.Print e) remark h = h
  of_ramp a (ramp.Doubted c d) remark h = h
  of_ramp a (ramp.Load e) remark h = h
  of_ramp a (ramp.Rollout e) remark h = h
  of_ramp a (ramp.Read e) remark h = h
  of_ramp a (ramp.Verify e) remark h = h
  of_ramp a ramp.Lines remark h = h
  of_ramp a ramp.NoStep remark h = h
  of_ramp a ramp.OtherRule remark h = h

  of_verify : (v : Verifying) (e : RampRefusal) (remark : Remark) → IsOfVerify v e remark → IsOfVerify (verified_as other v) e remark
  of_verify v (ramp.Read e) remark h = h
  of_verify v (ramp.Verify (verdict.Request e)) remark h = h
  of_verify v (ramp.Verify (verdict.Check e)) remark h = h
  of_verify v ramp.Lines remark h = h
  of_verify v (ramp.Doubted c d) remark h = h
  of_verify v (ramp.Load e) remark h = h
  of_verify v (ramp.Rollout e) remark h = h
  of_verify v (ramp.Ramp e) remark h = h
  of_verify v (ramp.Print e) remark h = h
  of_verify v ramp.NoStep remark h = h
  of_verify v ramp.OtherRule remark h = h

  of_step : (a : Applying) (e : RampRefusal) (remark : Remark) → IsOfStep a e remark → IsOfStep (record a { floats = other }) e remark
  of_step a (ramp.Rollout e) remark h = h
  of_step a (ramp.Read e) remark h = h
  of_step a ramp.NoStep remark h = h
  of_step a (ramp.Ramp e) remark h = h
  of_step a (ramp.Print e) remark h = h
  of_step a (ramp.Doubted c d) remark h = h
  of_step a (ramp.Load e) remark h = h
  of_step a (ramp.Verify e) remark h = h
  of_step a ramp.Lines remark h = h
  of_step a ramp.OtherRule remark h = h

  of_keep : (k : Keeping) (e : RampRefusal) (remark : Remark) → IsOfKeep k e remark → IsOfKeep (record k { answered = verified_as other k.answered }) e remark
  of_keep k (ramp.Rollout e) remark h = h
  of_keep k ramp.NoStep remark h = h
  of_keep k ramp.OtherRule remark h = h
  of_keep k (ramp.Read e) remark h = h
  of_keep k (ramp.Verify (verdict.Request e)) remark h = h
  of_keep k (ramp.Verify (verdict.Check e)) remark h = h
  of_keep k ramp.Lines remark h = h
  of_keep k (ramp.Doubted c d) remark h = h
  of_keep k (ramp.Load e) remark h = h
  of_keep k (ramp.Ramp e) remark h = h
  of_keep k (ramp.Print e) remark h = h

  module _ (meanings : MeaningsStay) (at : Holding) where
    ramp_like : (a : Ramping) → IsWholeAt at a.document → AreLike (ramping.ramp_files at a) (ramping.ramp_files at (record a { floats = other }))
    ramp_like a whole = question_like meanings a.floats other at a.document whole a.steps a.book

    verify_like : (v : Verifying) → IsWholeAt at v.rollout.document → AreLike (ramping.verify_files at v) (ramping.verify_files at (verified_as other v))
    verify_like v whole = with_more (ramping.ramp_files at v.rollout) (ramping.ramp_files at (record v.rollout { floats = other })) (ramping.answers_file at v.ramp) (ramp_like v.rollout whole)

    step_like : (a : Applying) → IsWholeAt at a.document → AreLike (ramping.step_files at a) (ramping.step_files at (record a { floats = other }))
    step_like a whole = (attempt_so (file a.document) (IsDocumentAs a.floats at a.document) (IsDocumentAs other at a.document) (λ r. document_so meanings a.floats other at a.document r whole), themselves (ramping.answers_file at a.ramp))

    ramp_at : (a : Ramping) (text : List ℕ) (told : Option Remark) → IsWholeAt at a.document → TellsRampAt at a text told → TellsRampAt at (record a { floats = other }) text told
    unfolding TellsRampAt TellsRampOf
    ramp_at a text told whole h = (h.0, question_so meanings a.floats other at a.document a.steps a.book (Ok h.0) whole h.1, h.2)

    verdict_at : (v : Verifying) (told : Option Remark) → IsWholeAt at v.rollout.document → TellsVerdictAt at v told → TellsVerdictAt at (verified_as other v) told
    unfolding TellsVerdictAt
    verdict_at v told whole h = (h.0, h.1, question_so meanings v.rollout.floats other at v.rollout.document v.rollout.steps v.rollout.book (Ok h.0) whole h.2, h.3, h.4)

    keep_at : (k : Keeping) (told : Option Remark) → IsWholeAt at k.answered.rollout.document → TellsKeepAt at k told → TellsKeepAt at (record k { answered = verified_as other k.answered }) told
    unfolding TellsKeepAt TellsKeepFrom
    keep_at k told whole h = (h.0, question_so meanings k.answered.rollout.floats other at k.answered.rollout.document k.answered.rollout.steps k.answered.rollout.book (Ok h.0) whole h.1, h.2)

    module _ (trees : TreesStay) where
      step_at : (a : Applying) (told : Option Remark) → IsWholeAt at a.document → TellsStepAt at a told → TellsStepAt at (record a { floats = other }) told
      unfolding TellsStepAt TellsStepFrom TellsStepOf
      step_at a told whole h = (
        h.0,
        h.1,
        h.2,
        document_so meanings a.floats other at a.document (Ok h.1) whole h.3,
        (
          h.4.0,
          h.4.1,
          (h.4.2.0, h.4.2.1, parts_so trees a.floats other h.0 (whole h.0 h.2) a.document h.1 a.key a.site h.4.2.0 told h.4.2.2),
        ),
      )

  pub ramp_remarks : MeaningsStay → (at : Holding) (a : Ramping) (r : Result Report RampRefusal) (remark : Remark) → IsWholeAt at a.document → ramp_told a at r remark → ramp_told (record a { floats = other }) at r remark
  ramp_remarks meanings at a (Ok report) remark whole h = (h.0, ramp_at meanings at a report.text (Some remark) whole h.1)
  ramp_remarks meanings at a (Err e) remark whole h = of_first (ramping.ramp_files at a) (ramping.ramp_files at (record a { floats = other })) (ramp_like meanings at a whole) (IsOfRamp a) (IsOfRamp (record a { floats = other })) (of_ramp a) e remark h

  pub verdict_remarks : MeaningsStay → (at : Holding) (v : Verifying) (r : Result Report RampRefusal) (remark : Remark) → IsWholeAt at v.rollout.document → verify_told v at r remark → verify_told (verified_as other v) at r remark
  verdict_remarks meanings at v (Ok report) remark whole h = (h.0, verdict_at meanings at v (Some remark) whole h.1)
  verdict_remarks meanings at v (Err e) remark whole h = of_first (ramping.verify_files at v) (ramping.verify_files at (verified_as other v)) (verify_like meanings at v whole) (IsOfVerify v) (IsOfVerify (verified_as other v)) (of_verify v) e remark h

  pub step_remarks : MeaningsStay → TreesStay → (at : Holding) (a : Applying) (r : Result Report RampRefusal) (remark : Remark) → IsWholeAt at a.document → step_told a at r remark → step_told (record a { floats = other }) at r remark
  step_remarks meanings trees at a (Ok report) remark whole h = (h.0, step_at meanings at trees a (Some remark) whole h.1)
  step_remarks meanings trees at a (Err e) remark whole h = of_first (ramping.step_files at a) (ramping.step_files at (record a { floats = other })) (step_like meanings at a whole) (IsOfStep a) (IsOfStep (record a { floats = other })) (of_step a) e remark h

  pub kept_remarks : MeaningsStay → (at : Holding) (k : Keeping) (r : Result Report RampRefusal) (remark : Remark) → IsWholeAt at k.answered.rollout.document
      → keep_told k at r remark → keep_told (record k { answered = verified_as other k.answered }) at r remark
  kept_remarks meanings at k (Ok report) remark whole h = (h.0, keep_at meanings at k (Some remark) whole h.1)
  kept_remarks meanings at k (Err e) remark whole h =
      of_first (ramping.verify_files at k.answered) (ramping.verify_files at (verified_as other k.answered)) (verify_like meanings at k.answered whole) (IsOfKeep k) (IsOfKeep (record k { answered = verified_as other k.answered })) (of_keep k) e remark h
