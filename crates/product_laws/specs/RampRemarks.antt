-- The same of what a person is told of a rollout in steps.
use Rattle.std.specs.Prelude.{Bool}
use Rattle.flagops_ramps.specs.Commands.{keep_told, ramp_told, step_told, verify_told}
use Rattle.flagops_ramps.specs.Report as ramps
use Rattle.flagops_ramps.specs.Words.{Applying, Keeping, Ramping, Verifying}
use Rattle.flagops_shell.specs.Files.{Holding}
use Rattle.flagops_shell.specs.declared.refused.Remark.{Remark}
use Rattle.product_laws.specs.Ramps.{verified_as}
use Rattle.product_laws.specs.Whole.{IsWholeAt}

-- of `ramp`, `verify-ramp`, `apply --step`, and `apply --step --keep`
abbrev pub RampRemarksStay : Type 0
RampRemarksStay = (other : Bool) (at : Holding) (a : Ramping) (r : ramps.Came) (remark : Remark) → IsWholeAt at a.document → ramp_told a at r remark → ramp_told (record a { floats = other }) at r remark

abbrev pub VerdictRemarksStay : Type 0
VerdictRemarksStay = (other : Bool) (at : Holding) (v : Verifying) (r : ramps.Came) (remark : Remark) → IsWholeAt at v.rollout.document → verify_told v at r remark → verify_told (verified_as other v) at r remark

abbrev pub StepRemarksStay : Type 0
StepRemarksStay = (other : Bool) (at : Holding) (a : Applying) (r : ramps.Came) (remark : Remark) → IsWholeAt at a.document → step_told a at r remark → step_told (record a { floats = other }) at r remark

abbrev pub KeptRemarksStay : Type 0
KeptRemarksStay =
    (other : Bool) (at : Holding) (k : Keeping) (r : ramps.Came) (remark : Remark) → IsWholeAt at k.answered.rollout.document → keep_told k at r remark → keep_told (record k { answered = verified_as other k.answered }) at r remark
