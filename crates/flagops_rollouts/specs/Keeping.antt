-- The number and the name that a refusal of `apply --keep` is written with.
use Rattle.std.specs.Prelude.{ℕ, List, codes}
use Rattle.kept_document.specs.declared.fault.KeepFault.{KeepFault}
use Rattle.kept_document.specs.declared.fault.KeepFault.TheVariants.{WantOfMemory, Shared, TooLong, Differs}
use Rattle.rollout.specs.VerifyFault as verdicts
use Rattle.rollout.specs.declared.fault.RolloutFault.TheVariants.{OtherTally}
use Rattle.rollout.specs.declared.verify_fault.VerifyFault.{VerifyFault}
use Rattle.rollout.specs.declared.verify_fault.VerifyFault.TheVariants.{Request}
use Rattle.flagops_rollouts.specs.declared.keep_refusal.KeepRefusal.{KeepRefusal}
use Rattle.flagops_rollouts.specs.declared.keep_refusal.KeepRefusal.TheVariants.{Verify, Document}

-- those of a document that does not take a rule, behind those of a rollout
abbrev pub fault_number : KeepFault → ℕ
fault_number WantOfMemory = 0
fault_number Shared = 11
fault_number TooLong = 12
fault_number Differs = 13

abbrev pub fault_name : KeepFault → List ℕ
fault_name WantOfMemory = codes "WantOfMemory"
fault_name Shared = codes "Shared"
fault_name TooLong = codes "TooLong"
fault_name Differs = codes "Differs"

-- that of another tally stands behind them, since `Shared` has the one that `verify` gives it
abbrev pub verdict_number : VerifyFault → ℕ
verdict_number (Request OtherTally) = 14
verdict_number e = verdicts.number_of e

-- an answer that is not right has those of `verify`
abbrev pub number_of : KeepRefusal → ℕ
number_of (Verify e) = verdict_number e
number_of (Document e) = fault_number e

abbrev pub name_of : KeepRefusal → List ℕ
name_of (Verify e) = verdicts.name_of e
name_of (Document e) = fault_name e
