-- What is known of each command that draws.
use Rattle.std.specs.Prelude.{◌≡◌, ◌⊎◌, codes}
use Rattle.flagops_shell.specs.Described.{described}
use Rattle.flagops_rollouts.specs.declared.refusal.RolloutRefusal.{RolloutRefusal}
use Rattle.flagops_rollouts.specs.Refusal.{call_name, call_of}
use Rattle.flagops_ramps.specs.Commands.{reading, verify_told}
use Rattle.flagops_ramps.specs.Words.{Verifying}
use Rattle.flagops_ramps.specs.declared.refusal.RampRefusal.{RampRefusal}
use Rattle.flagops_shell.specs.Files.{KeepsOthers}
use Rattle.flagops_shell.specs.Running.{Description}
use Rattle.flagops_pictures.specs.Diagnostics.{picture_told, plan_told}
use Rattle.flagops_pictures.specs.Pictured.{IsPictureReport, picture_calls}
use Rattle.flagops_pictures.specs.Planning.{IsPlanPicture, plan_calls}
use Rattle.flagops_pictures.specs.Ramps.{IsRampPicture}
use Rattle.flagops_pictures.specs.Words.{Picturing, Planning, picture_by, picture_faults, plan_by, plan_faults, ramp_by, ramp_faults}

abbrev pub picture_description : Description Picturing RolloutRefusal
picture_description = described call_name call_of picture_by picture_faults (λ a at after. IsPictureReport at a) (λ a at. picture_told at a) (λ a. picture_calls) (λ a old new. new ≡ old)

-- `picture --ramp` is refused as `verify-ramp` is, and reports a want of memory by its name
abbrev pub ramp_description : Description Verifying RampRefusal
ramp_description = reading (codes "verify-ramp") ramp_by ramp_faults (λ v at. IsRampPicture at v) verify_told

-- `plan --picture` changes one file, that of the picture, also where no rule fits
abbrev pub plan_description : Description Planning RolloutRefusal
plan_description = record (described call_name call_of plan_by plan_faults (λ p at after. IsPlanPicture at after p) (λ p at. plan_told at p) (λ p. plan_calls) (λ p old new. (new ≡ old) ⊎ KeepsOthers old new p.picture)) {
  IsDone = λ status. (status ≡ 0) ⊎ (status ≡ 3);
}
