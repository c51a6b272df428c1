-- The number and the name that a refusal of an answer is printed with: those of the fault that it carries; and whether memory ran out.
use Rattle.std.specs.Prelude.{ℕ, List, Bool, true, false}
use Rattle.transport_core.specs.Fault as check
use Rattle.transport_core.specs.declared.fault.CheckFault.TheVariants as checks
use Rattle.rollout.specs.Fault as rollout
use Rattle.rollout.specs.declared.fault.RolloutFault.TheVariants as rollouts
use Rattle.rollout.specs.declared.verify_fault.VerifyFault.{VerifyFault}
use Rattle.rollout.specs.declared.verify_fault.VerifyFault.TheVariants.{Request, Check}

abbrev pub number_of : VerifyFault → ℕ
number_of (Request fault) = rollout.number_of fault
number_of (Check fault) = check.number_of fault

abbrev pub name_of : VerifyFault → List ℕ
name_of (Request fault) = rollout.name_of fault
name_of (Check fault) = check.name_of fault

-- memory ran out, for the request or for the check
abbrev pub is_want : VerifyFault → Bool
is_want (Request rollouts.WantOfMemory) = true
is_want (Check checks.WantOfMemory) = true
is_want e = false
