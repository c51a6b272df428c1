-- The pictures of rollouts, and what a person is told beside them.
use Rattle.std.proofs.Common.{Bool, Option, Some, Result, Ok, Err, unwrap_or}
use Rattle.flagops_files.specs.Question.{Question}
use Rattle.flagops_pictures.specs.Pictured.{IsPictureReport}
use Rattle.flagops_pictures.specs.Planning.{IsPlanPicture, IsPlanPictured}
use Rattle.flagops_pictures.specs.Words.{Planning}
use Rattle.flagops_rollouts.specs.declared.refusal.RolloutRefusal.{RolloutRefusal}
use Rattle.flagops_shell.specs.Files.{Holding}
use Rattle.flagops_shell.specs.Report.{Report}
use Rattle.product_laws.specs.Documents.{MeaningsStay}
use Rattle.product_laws.proofs.Read.{rolled_question}
use Rattle.flagops_pictures.specs.Ramps.{IsRampPicture}
use Rattle.flagops_files.specs.Told.{by_kind}
use Rattle.flagops_pictures.specs.Diagnostics as pictures
use Rattle.flagops_rollouts.specs.Attempts.{plan_read, question_attempts}
use Rattle.product_laws.proofs.Attempted.{first_so, rolled_like, with_more}
use Rattle.product_laws.proofs.Told.{doubts_told, plan_told}
use Rattle.product_laws.specs.Pictures.{PictureRemarksStay, PicturesStay, PlannedPicturesStay, PlannedRemarksStay, RampPicturesStay}
use Rattle.product_laws.proofs.Ramps.{found_so}

module _ (meanings : MeaningsStay) where
  pub pictures_stay : PicturesStay
  unfolding IsPictureReport
  pictures_stay other at a r whole h = (h.0, rolled_question meanings a.floats other at a.document a.request a.book h.0 whole h.1, h.2)

  pictured_so : (other : Bool) (at : Holding) (after : Option Holding) (p : Planning) (question : Result Question RolloutRefusal) (r : Result Report RolloutRefusal) → IsPlanPictured at after p question r
      → IsPlanPictured at after (record p { floats = other }) question r
  pictured_so other at after p (Err e) r h = h
  pictured_so other at after p (Ok q) (Ok report) h = h
  pictured_so other at after p (Ok q) (Err e) h = h

  pub planned_pictures_stay : PlannedPicturesStay
  unfolding IsPlanPicture
  planned_pictures_stay other at after p r whole h = (h.0, rolled_question meanings p.floats other at p.document p.request p.book h.0 whole h.1, pictured_so other at after p h.0 r h.2)

  pub ramp_pictures_stay : RampPicturesStay
  unfolding IsRampPicture
  ramp_pictures_stay other at v r whole h = (h.0, found_so meanings other at v h.0 whole h.1, h.2)

  -- ---- what a person is told

  pub picture_remarks : PictureRemarksStay
  picture_remarks other at a (Ok report) remark whole h = (h.0, doubts_told meanings a.floats other at a.document whole a.request a.book (Some remark) h.1)
  picture_remarks other at a (Err e) remark whole h =
      first_so (pictures.picture_attempts at a) (pictures.picture_attempts at (record a { floats = other }))
      (with_more (question_attempts a.floats at a.document a.request a.book) (question_attempts other at a.document a.request a.book) (plan_read at a.plan (pictures.checked_subjects a.request a.plan)) (rolled_like meanings a.floats other at a.document whole a.request a.book)) e remark h

  pub planned_remarks : PlannedRemarksStay
  planned_remarks other at p (Ok report) remark whole h = (h.0, plan_told meanings p.floats other at p.document whole p.request p.book (unwrap_or p.refine 1) p.explain report.text (Some remark) h.1)
  planned_remarks other at p (Err e) remark whole h =
      first_so (pictures.plan_attempts at p) (pictures.plan_attempts at (record p { floats = other }))
      (with_more (question_attempts p.floats at p.document p.request p.book) (question_attempts other at p.document p.request p.book) (by_kind (pictures.drawn_subjects p)) (rolled_like meanings p.floats other at p.document whole p.request p.book)) e remark h
