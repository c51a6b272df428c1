-- The number of a refusal, and whose refusal a fault is.
use Rattle.std.specs.Prelude.{ℕ, ◌+◌}
use Rattle.flag_defs.specs.Fault.{number_of as document_number}
use Rattle.flag_defs.specs.declared.fault.DefFault.{DefFault}
use Rattle.flag_defs.specs.declared.fault.DefFault.TheVariants as document_fault
use Rattle.kept_document.specs.declared.fault.KeepFault.{KeepFault}
use Rattle.kept_document.specs.declared.fault.KeepFault.TheVariants as keep_fault
use Rattle.plan_text.specs.Fault.{number_of as plan_number}
use Rattle.plan_text.specs.declared.fault.PlanFileFault.{PlanFileFault}
use Rattle.plan_text.specs.declared.fault.PlanFileFault.TheVariants as plan_fault
use Rattle.price_core.specs.declared.fault.PriceFault.{PriceFault}
use Rattle.rollout.specs.Fault.{number_of as rollout_number}
use Rattle.rollout.specs.Fault as rollouts
use Rattle.rollout.specs.declared.fault.RolloutFault.{RolloutFault}
use Rattle.rollout.specs.declared.fault.RolloutFault.TheVariants as rollout_fault
use Rattle.rollout.specs.declared.verify_fault.VerifyFault.{VerifyFault}
use Rattle.rollout.specs.declared.verify_fault.VerifyFault.TheVariants as verdict
use Rattle.note_tallies.specs.FilterFault.{number_of as notes_number}
use Rattle.note_tallies.specs.declared.filter_fault.FilterFault.{FilterFault}
use Rattle.note_tallies.specs.declared.filter_fault.FilterFault.TheVariants as notes_fault
use Rattle.note_tallies.specs.Fault.{number_of as tally_number}
use Rattle.note_tallies.specs.declared.file_fault.TallyFileFault.{TallyFileFault}
use Rattle.note_tallies.specs.declared.file_fault.TallyFileFault.TheVariants as tally_fault
use Rattle.transport_core.specs.Fault.{number_of as check_number}
use Rattle.transport_core.specs.declared.fault.CheckFault.{CheckFault}
use Rattle.transport_core.specs.declared.fault.CheckFault.TheVariants as check_fault
use Rattle.library_rollouts.specs.declared.refusal.RolloutRefusal.{RolloutRefusal}
use Rattle.library_rollouts.specs.declared.refusal.RolloutRefusal.TheVariants.{WantOfMemory, Room, NoRule, Document, Rollout, Notes, Tally, Plan, Check, Keep}

-- of a document that does not take a rule
abbrev pub keep_number : KeepFault → ℕ
keep_number keep_fault.WantOfMemory = 0
keep_number keep_fault.Shared = 1
keep_number keep_fault.TooLong = 2
keep_number keep_fault.Differs = 3

-- 0 is no refusal; want of memory, the room and a document have the numbers that a seat gives them
abbrev pub number_of : RolloutRefusal → ℕ
number_of WantOfMemory = 1
number_of Room = 3
number_of NoRule = 9
number_of (Document e) = 10 + document_number e
number_of (Rollout e) = 50 + rollout_number e
number_of (Notes e) = 70 + notes_number e
number_of (Tally e) = 80 + tally_number e
number_of (Plan e) = 90 + plan_number e
number_of (Check e) = 100 + check_number e
number_of (Keep e) = 110 + keep_number e

-- want of memory is one refusal, wherever it comes from
abbrev pub of_document : DefFault → RolloutRefusal
of_document document_fault.WantOfMemory = WantOfMemory
of_document e = Document e

abbrev pub of_rollout : RolloutFault → RolloutRefusal
of_rollout rollout_fault.WantOfMemory = WantOfMemory
of_rollout e = Rollout e

abbrev pub of_price : PriceFault → RolloutRefusal
of_price e = of_rollout (rollouts.of_price e)

abbrev pub of_notes : FilterFault → RolloutRefusal
of_notes notes_fault.WantOfMemory = WantOfMemory
of_notes e = Notes e

abbrev pub of_tally : TallyFileFault → RolloutRefusal
of_tally tally_fault.WantOfMemory = WantOfMemory
of_tally e = Tally e

abbrev pub of_plan : PlanFileFault → RolloutRefusal
of_plan plan_fault.WantOfMemory = WantOfMemory
of_plan e = Plan e

abbrev pub of_check : CheckFault → RolloutRefusal
of_check check_fault.WantOfMemory = WantOfMemory
of_check e = Check e

abbrev pub of_verdict : VerifyFault → RolloutRefusal
of_verdict (verdict.Request e) = of_rollout e
of_verdict (verdict.Check e) = of_check e

abbrev pub of_keep : KeepFault → RolloutRefusal
of_keep keep_fault.WantOfMemory = WantOfMemory
of_keep e = Keep e
