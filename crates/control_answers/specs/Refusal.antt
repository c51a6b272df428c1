-- Why a call is refused: as the command that it stands for refuses it.
use Rattle.std.specs.Prelude.{ℕ, List, ◌++◌, codes, decimal}
use Rattle.flag_text.specs.Printing.{text_of}
use Rattle.flag_text.specs.Shape.{text}
use Rattle.kept_document.specs.declared.fault.KeepFault.{KeepFault}
use Rattle.kept_document.specs.declared.fault.KeepFault.TheVariants as keep_fault
use Rattle.note_streams.specs.declared.log_fault.LogTallyFault.{LogTallyFault}
use Rattle.note_streams.specs.declared.log_fault.LogTallyFault.TheVariants as logs
use Rattle.plan_text.specs.Fault.{name_of as plan_name, number_of as plan_number}
use Rattle.plan_text.specs.declared.fault.PlanFileFault.{PlanFileFault}
use Rattle.plan_text.specs.declared.fault.PlanFileFault.TheVariants as plan_fault
use Rattle.price_core.specs.declared.fault.PriceFault.{PriceFault}
use Rattle.price_core.specs.declared.fault.PriceFault.TheVariants as price_fault
use Rattle.rollout.specs.Fault as rollouts
use Rattle.rollout.specs.declared.fault.RolloutFault.{RolloutFault}
use Rattle.rollout.specs.declared.fault.RolloutFault.TheVariants as rollout_fault
use Rattle.rollout.specs.declared.verify_fault.VerifyFault.{VerifyFault}
use Rattle.rollout.specs.declared.verify_fault.VerifyFault.TheVariants as verdict
use Rattle.transport_core.specs.Fault.{name_of as check_name, number_of as check_number}
use Rattle.transport_core.specs.declared.fault.CheckFault.{CheckFault}
use Rattle.transport_core.specs.declared.fault.CheckFault.TheVariants as check_fault
use Rattle.control_answers.specs.declared.refusal.ControlRefusal.{ControlRefusal}
use Rattle.control_answers.specs.declared.refusal.ControlRefusal.TheVariants.{WantOfMemory, Rollout, Logs, ReadPlan, PrintPlan, Check, OtherTally, Keep, Unread, Unrecorded, NoRecord, BadToken, OtherDocument, NoDocument}

-- want of memory is one refusal, wherever it comes from
abbrev pub of_rollout : RolloutFault → ControlRefusal
of_rollout rollout_fault.WantOfMemory = WantOfMemory
of_rollout e = Rollout e

abbrev pub of_price : PriceFault → ControlRefusal
of_price e = of_rollout (rollouts.of_price e)

abbrev pub of_logs : LogTallyFault → ControlRefusal
of_logs logs.WantOfMemory = WantOfMemory
of_logs e = Logs e

-- of a plan that is read
abbrev pub of_read : PlanFileFault → ControlRefusal
of_read plan_fault.WantOfMemory = WantOfMemory
of_read e = ReadPlan e

-- of one that is printed
abbrev pub of_printed : PlanFileFault → ControlRefusal
of_printed plan_fault.WantOfMemory = WantOfMemory
of_printed e = PrintPlan e

abbrev pub of_check : CheckFault → ControlRefusal
of_check check_fault.WantOfMemory = WantOfMemory
of_check e = Check e

abbrev pub of_verdict : VerifyFault → ControlRefusal
of_verdict (verdict.Request e) = of_rollout e
of_verdict (verdict.Check e) = of_check e

-- where a document does not take a rule
abbrev pub of_keep : KeepFault → ControlRefusal
of_keep keep_fault.WantOfMemory = WantOfMemory
of_keep e = Keep e

-- of the plan of a token: another tally has a number of its own, since that of `verify` is that of a document
abbrev pub of_verdict_of_token : VerifyFault → ControlRefusal
of_verdict_of_token (verdict.Request rollout_fault.OtherTally) = OtherTally
of_verdict_of_token e = of_verdict e

-- of bytes that are no request
abbrev pub bad_request : ControlRefusal
bad_request = Rollout (rollout_fault.Request price_fault.BadRequest)

-- ---- by which number and name it is told

-- the number and the name of the command `tally`, whose lines these are
abbrev pub logs_number : LogTallyFault → ℕ
logs_number logs.WantOfMemory = 0
logs_number (logs.Line file line) = 1
logs_number logs.TooMany = 3
logs_number logs.Mixed = 6

abbrev pub logs_name : LogTallyFault → List ℕ
logs_name logs.WantOfMemory = codes "WantOfMemory"
logs_name (logs.Line file line) = codes "Line"
logs_name logs.TooMany = codes "TooMany"
logs_name logs.Mixed = codes "Mixed"

-- those of the command `apply --keep` for a document that does not take a rule
abbrev pub keep_number : KeepFault → ℕ
keep_number keep_fault.WantOfMemory = 0
keep_number keep_fault.Shared = 11
keep_number keep_fault.TooLong = 12
keep_number keep_fault.Differs = 13

abbrev pub keep_name : KeepFault → List ℕ
keep_name keep_fault.WantOfMemory = codes "WantOfMemory"
keep_name keep_fault.Shared = codes "Shared"
keep_name keep_fault.TooLong = codes "TooLong"
keep_name keep_fault.Differs = codes "Differs"

abbrev pub number_of : ControlRefusal → ℕ
number_of WantOfMemory = 0
number_of (Rollout e) = rollouts.number_of e
number_of (Logs e) = logs_number e
number_of (ReadPlan e) = plan_number e
number_of (PrintPlan e) = plan_number e
number_of (Check e) = check_number e
number_of OtherTally = 14
number_of (Keep e) = keep_number e
number_of Unread = 16
number_of Unrecorded = 17
number_of NoRecord = 1
number_of BadToken = 2
number_of OtherDocument = 3
number_of NoDocument = 4

abbrev pub name_of : ControlRefusal → List ℕ
name_of WantOfMemory = codes "WantOfMemory"
name_of (Rollout e) = rollouts.name_of e
name_of (Logs e) = logs_name e
name_of (ReadPlan e) = plan_name e
name_of (PrintPlan e) = plan_name e
name_of (Check e) = check_name e
name_of OtherTally = codes "OtherTally"
name_of (Keep e) = keep_name e
name_of Unread = codes "Unread"
name_of Unrecorded = codes "Unrecorded"
name_of NoRecord = codes "NoRecord"
name_of BadToken = codes "BadToken"
name_of OtherDocument = codes "OtherDocument"
name_of NoDocument = codes "NoDocument"

-- the call that refuses: the one that is asked, or one by which it reads or writes
abbrev pub call_of : List ℕ → ControlRefusal → List ℕ
call_of asked WantOfMemory = asked
call_of asked (Rollout e) = asked
call_of asked (Logs e) = codes "tally"
call_of asked (ReadPlan e) = codes "read_planned"
call_of asked (PrintPlan e) = codes "print_planned"
call_of asked (Check e) = asked
call_of asked OtherTally = asked
call_of asked (Keep e) = asked
call_of asked Unread = asked
call_of asked Unrecorded = asked
call_of asked NoRecord = codes "control"
call_of asked BadToken = codes "control"
call_of asked OtherDocument = codes "control"
call_of asked NoDocument = codes "control"

-- the status of the answer (RFC 9110, 15.5 and 15.6.1)
abbrev pub status_of : ControlRefusal → ℕ
status_of WantOfMemory = 500
status_of NoRecord = 409
status_of OtherDocument = 409
status_of e = 400

-- the body of the refusal of a call, with words for a person
abbrev pub refusal_text : List ℕ → ControlRefusal → List ℕ → List ℕ
refusal_text asked e details =
    codes "{\"refused\":\"" ++ (call_of asked e ++ (codes "\",\"number\":" ++ (decimal (number_of e) ++ (codes ",\"name\":\"" ++ (name_of e ++ (codes "\",\"details\":" ++ (text_of (text details) ++ codes "}\n")))))))
