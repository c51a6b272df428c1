-- The same of pictures, and of what a person is told beside them.
use Rattle.std.specs.Prelude.{Bool, Option}
use Rattle.flagops_pictures.specs.Pictured.{IsPictureReport}
use Rattle.flagops_pictures.specs.Planning.{IsPlanPicture}
use Rattle.flagops_pictures.specs.Words.{Picturing, Planning}
use Rattle.flagops_shell.specs.Files.{Holding}
use Rattle.product_laws.specs.Whole.{IsWholeAt}
use Rattle.flagops_pictures.specs.Ramps.{IsRampPicture}
use Rattle.flagops_ramps.specs.Report as ramps
use Rattle.flagops_ramps.specs.Words.{Verifying}
use Rattle.flagops_pictures.specs.Diagnostics as pictures
use Rattle.flagops_shell.specs.declared.refused.Remark.{Remark}
use Rattle.product_laws.specs.Ramps.{verified_as}
use Rattle.product_laws.specs.Rollouts.{Came}

-- of `picture`, and of `plan --picture` with the file that it writes
abbrev pub PicturesStay : Type 0
PicturesStay = (other : Bool) (at : Holding) (a : Picturing) (r : Came) → IsWholeAt at a.document → IsPictureReport at a r → IsPictureReport at (record a { floats = other }) r

abbrev pub PlannedPicturesStay : Type 0
PlannedPicturesStay =
    (other : Bool) (at : Holding) (after : Option Holding) (p : Planning) (r : Came) → IsWholeAt at p.document → IsPlanPicture at after p r → IsPlanPicture at after (record p { floats = other }) r

-- of `picture --ramp`
abbrev pub RampPicturesStay : Type 0
RampPicturesStay = (other : Bool) (at : Holding) (v : Verifying) (r : ramps.Came) → IsWholeAt at v.rollout.document → IsRampPicture at v r → IsRampPicture at (verified_as other v) r

-- of what a person is told
abbrev pub PictureRemarksStay : Type 0
PictureRemarksStay = (other : Bool) (at : Holding) (a : Picturing) (r : Came) (remark : Remark) → IsWholeAt at a.document → pictures.picture_told at a r remark → pictures.picture_told at (record a { floats = other }) r remark

abbrev pub PlannedRemarksStay : Type 0
PlannedRemarksStay = (other : Bool) (at : Holding) (p : Planning) (r : Came) (remark : Remark) → IsWholeAt at p.document → pictures.plan_told at p r remark → pictures.plan_told at (record p { floats = other }) r remark
