-- The line that a refusal of a command on steps is written as.
use Rattle.std.specs.Prelude.{ℕ, Bool, true, false, List, [], codes, decimal}
use Rattle.flagops_files.specs.Payload.{number_item, rollout_items}
use Rattle.flagops_files.specs.Refusal as files
use Rattle.flagops_files.specs.Refusal.{line_with}
use Rattle.flagops_rollouts.specs.Payload.{verify_items}
use Rattle.flagops_rollouts.specs.Refusal as rolling
use Rattle.flagops_rollouts.specs.Refusal.{doubt_name, doubt_number}
use Rattle.plan_text.specs.Fault as plan_files
use Rattle.plan_text.specs.declared.fault.PlanFileFault.TheVariants as plan
use Rattle.ramp.specs.Fault as ramp_files
use Rattle.ramp.specs.declared.file_fault.RampFileFault.{RampFileFault}
use Rattle.ramp.specs.declared.file_fault.RampFileFault.TheVariants as ramp_file
use Rattle.ramp.specs.declared.file_fault.RampFileFault.TheVariants.{Line}
use Rattle.rollout.specs.Fault as rollouts
use Rattle.rollout.specs.VerifyFault as verdicts
use Rattle.rollout.specs.declared.fault.RolloutFault.TheVariants as rollout
use Rattle.flagops_ramps.specs.declared.refusal.RampRefusal.{RampRefusal}
use Rattle.flagops_ramps.specs.declared.refusal.RampRefusal.TheVariants.{Load, Rollout, Ramp, Print, Read, Verify, Lines, NoStep, OtherRule, Doubted}
use Rattle.flagops_ramps.specs.declared.refusal.StepCall.{StepCall}
use Rattle.flagops_ramps.specs.declared.refusal.StepCall.TheVariants as call

abbrev pub call_name : StepCall → List ℕ
call_name call.Ramp = codes "ramp"
call_name call.VerifyRamp = codes "verify-ramp"
call_name call.Apply = codes "apply"

-- memory ran out
abbrev pub is_want : RampRefusal → Bool
is_want (Load e) = files.is_want e
is_want (Rollout e) = rolling.is_want e
is_want (Ramp rollout.WantOfMemory) = true
is_want (Print plan.WantOfMemory) = true
is_want (Read ramp_file.WantOfMemory) = true
is_want (Verify e) = verdicts.is_want e
is_want r = false

-- a file could not be read
abbrev pub is_unread : RampRefusal → Bool
is_unread (Load e) = files.is_unread e
is_unread (Rollout e) = rolling.is_unread e
is_unread r = false

-- the line at fault
abbrev pub line_items : RampFileFault → List ℕ
line_items (Line n) = number_item n
line_items e = []

-- `refused`, the call, the number, the name and what the fault says beyond it
abbrev pub line_of : RampRefusal → List ℕ
line_of (Load e) = files.line_of e
line_of (Rollout e) = rolling.line_of e
line_of (Ramp e) = line_with (codes "ramp") (decimal (rollouts.number_of e)) (rollouts.name_of e) (rollout_items e)
line_of (Print e) = line_with (codes "print_ramp") (decimal (plan_files.number_of e)) (plan_files.name_of e) []
line_of (Read e) = line_with (codes "read_ramp") (decimal (ramp_files.number_of e)) (ramp_files.name_of e) (line_items e)
line_of (Verify e) = line_with (codes "verify-ramp") (decimal (verdicts.number_of e)) (verdicts.name_of e) (verify_items e)
line_of Lines = line_with (codes "verify-ramp") (decimal 14) (codes "Lines") []
line_of NoStep = line_with (codes "apply") (decimal 15) (codes "NoStep") []
line_of OtherRule = line_with (codes "apply") (decimal 20) (codes "OtherRule") []
line_of (Doubted c d) = line_with (call_name c) (decimal (doubt_number d)) (doubt_name d) []
