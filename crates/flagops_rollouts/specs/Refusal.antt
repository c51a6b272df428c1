-- Why a command on rollouts is refused, and the line that a refusal is written as.
use Rattle.std.specs.Prelude.{ℕ, Bool, true, false, List, [], codes, decimal, Result}
use Rattle.kept_document.specs.declared.fault.KeepFault.TheVariants as document
use Rattle.plan_text.specs.Fault as plan_files
use Rattle.plan_text.specs.declared.fault.PlanFileFault.TheVariants as plan
use Rattle.rollout.specs.Fault as rollouts
use Rattle.rollout.specs.VerifyFault as verdicts
use Rattle.rollout.specs.declared.fault.RolloutFault.{RolloutFault}
use Rattle.rollout.specs.declared.fault.RolloutFault.TheVariants as rollout
use Rattle.rollout.specs.declared.verify_fault.VerifyFault.{VerifyFault}
use Rattle.flagops_shell.specs.Diagnostic.{RemarksOf}
use Rattle.flagops_shell.specs.Ending as shell
use Rattle.flagops_shell.specs.Given as given
use Rattle.flagops_shell.specs.Outcomes as outcomes
use Rattle.flagops_shell.specs.declared.refused.Refused as refusals
use Rattle.flagops_files.specs.Refusal as files
use Rattle.flagops_files.specs.Refusal.{line_with}
use Rattle.flagops_files.specs.Told as told
use Rattle.flagops_files.specs.declared.refusal.Call.{Call}
use Rattle.flagops_rollouts.specs.Keeping as keeping_faults
use Rattle.flagops_files.specs.Payload.{rollout_items}
use Rattle.flagops_rollouts.specs.Payload.{keep_items, verify_items}
use Rattle.flagops_rollouts.specs.declared.keep_refusal.KeepRefusal.{KeepRefusal}
use Rattle.flagops_rollouts.specs.declared.keep_refusal.KeepRefusal.TheVariants as keeping
use Rattle.flagops_rollouts.specs.declared.refusal.Doubt.{Doubt}
use Rattle.flagops_rollouts.specs.declared.refusal.Doubt.TheVariants.{Unread, Unrecorded, Foreign}
use Rattle.flagops_rollouts.specs.declared.refusal.RolloutCall.{RolloutCall}
use Rattle.flagops_rollouts.specs.declared.refusal.RolloutCall.TheVariants as call
use Rattle.flagops_rollouts.specs.declared.refusal.RolloutRefusal.{RolloutRefusal}
use Rattle.flagops_rollouts.specs.declared.refusal.RolloutRefusal.TheVariants.{Load, WantOfMemory, Verify, Apply, Keep, Omitted, Plan, PrintPlanned, Doubted}

abbrev pub call_name : RolloutCall → List ℕ
call_name (call.Load c) = files.call_name c
call_name call.Verify = codes "verify"
call_name call.Apply = codes "apply"
call_name call.Plan = codes "plan"
call_name call.PrintPlanned = codes "print_planned"

-- the call that refused
abbrev pub call_of : RolloutRefusal → RolloutCall
call_of (Load e) = call.Load (files.call_of e)
call_of (WantOfMemory c) = c
call_of (Verify e) = call.Verify
call_of (Apply e) = call.Apply
call_of (Keep e) = call.Apply
call_of Omitted = call.Apply
call_of (Plan e) = call.Plan
call_of (PrintPlanned e) = call.PrintPlanned
call_of (Doubted c d) = c

-- memory ran out
abbrev pub is_want : RolloutRefusal → Bool
is_want (Load e) = files.is_want e
is_want (WantOfMemory c) = true
is_want (Verify e) = verdicts.is_want e
is_want (Apply rollout.WantOfMemory) = true
is_want (Keep (keeping.Verify e)) = verdicts.is_want e
is_want (Keep (keeping.Document document.WantOfMemory)) = true
is_want (Plan rollout.WantOfMemory) = true
is_want (PrintPlanned plan.WantOfMemory) = true
is_want r = false

-- a file could not be read or written
abbrev pub is_unread : RolloutRefusal → Bool
is_unread (Load e) = files.is_unread e
is_unread r = false

abbrev pub unwritable : RolloutRefusal
unwritable = Load files.unwritable

-- ---- the line

-- the number and the name of a doubt that is refused: a number that no fault of a call has
abbrev pub doubt_number : Doubt → ℕ
doubt_number Unread = 16
doubt_number Unrecorded = 17
doubt_number Foreign = 18

abbrev pub doubt_name : Doubt → List ℕ
doubt_name Unread = codes "Unread"
doubt_name Unrecorded = codes "Unrecorded"
doubt_name Foreign = codes "Foreign"

abbrev pub verify_line : VerifyFault → List ℕ
verify_line e = line_with (codes "verify") (decimal (verdicts.number_of e)) (verdicts.name_of e) (verify_items e)

abbrev pub rollout_line : List ℕ → RolloutFault → List ℕ
rollout_line name e = line_with name (decimal (rollouts.number_of e)) (rollouts.name_of e) (rollout_items e)

abbrev pub keep_line : KeepRefusal → List ℕ
keep_line e = line_with (codes "apply") (decimal (keeping_faults.number_of e)) (keeping_faults.name_of e) (keep_items e)

-- `refused`, the call, the number, the name and what the fault says beyond it
abbrev pub line_of : RolloutRefusal → List ℕ
line_of (Load e) = files.line_of e
line_of (WantOfMemory c) = line_with (call_name c) (decimal 0) (codes "WantOfMemory") []
line_of (Verify e) = verify_line e
line_of (Apply e) = rollout_line (codes "apply") e
line_of (Keep e) = keep_line e
line_of Omitted = line_with (codes "apply") (decimal 19) (codes "Omitted") []
line_of (Plan e) = rollout_line (codes "plan") e
line_of (PrintPlanned e) = line_with (codes "print_planned") (decimal (plan_files.number_of e)) (plan_files.name_of e) []
line_of (Doubted c d) = line_with (call_name c) (decimal (doubt_number d)) (doubt_name d) []

-- ---- by the type of these refusals

-- a refusal with what is told of it
abbrev pub Refused : Type 0
Refused = refusals.Refused RolloutRefusal

-- what a command may come to
abbrev pub Outcomes : Type 1
Outcomes = outcomes.Outcomes RolloutRefusal

-- a remark on what a command comes to says this of it
abbrev pub Remarks : Type 1
Remarks = RemarksOf RolloutRefusal

-- What was returned, seen by `seen`, is one of these, unless memory ran out.
abbrev pub GivesOne : {X Y : Type 0} → (X → Y) → Result X Refused → (Result Y RolloutRefusal → Type 0) → Type 0
GivesOne seen r Wanted = given.GivesOne is_want seen r Wanted

-- What was returned, seen by `seen`, is what the definition gives, unless memory ran out.
abbrev pub GivesUnlessWant : {X Y : Type 0} → (X → Y) → Result X Refused → Result Y RolloutRefusal → Type 0
GivesUnlessWant seen r wanted = given.GivesUnlessWant is_want seen r wanted

-- a refusal comes from one of these calls
abbrev pub ComesFrom : {X : Type 0} → (RolloutCall → Bool) → Result X Refused → Type 0
ComesFrom calls r = outcomes.ComesFrom call_of calls r

abbrev pub is_file_fault : {X : Type 0} → Result X Refused → Bool
is_file_fault r = shell.is_file_fault is_unread r

-- the refusals of these calls
abbrev pub by : (RolloutCall → Bool) → RolloutRefusal → Bool
by calls e = calls (call_of e)

-- what may be refused, each with the refusals that are of it
abbrev pub Subjects : Type 0
Subjects = told.Subjects RolloutRefusal

-- a refusal is told by the name of what is refused
abbrev pub TellsOf : {X : Type 0} → told.Subject → Result X Refused → Type 0
TellsOf subject r = told.TellsOf is_want subject r

-- a refusal is told by the name of one of them
abbrev pub TellsOfOne : {X : Type 0} → Subjects → Result X Refused → Type 0
TellsOfOne subjects r = told.TellsOfOne is_want subjects r

-- these calls, by which files are read or written
abbrev pub loads : (Call → Bool) → RolloutCall → Bool
loads calls (call.Load c) = calls c
loads calls c = false

-- those of a document, of a plan file and of a question
abbrev pub loads_flags : RolloutCall → Bool
loads_flags c = loads files.loads_flags c

abbrev pub loads_plan : RolloutCall → Bool
loads_plan c = loads files.loads_plan c

abbrev pub loads_question : RolloutCall → Bool
loads_question c = loads files.loads_question c

-- and that over a book
abbrev pub loads_book_question : RolloutCall → Bool
loads_book_question c = loads files.loads_book_question c

-- the call that writing a file makes
abbrev pub stores_file : RolloutCall → Bool
stores_file c = loads files.stores_file c
