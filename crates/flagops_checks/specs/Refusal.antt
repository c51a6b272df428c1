-- Why the command `check` is refused, and the line that a refusal is written as.
use Rattle.std.specs.Prelude.{ℕ, Bool, true, false, List, codes, Result}
use Rattle.flagops_shell.specs.Report.{want_line_of}
use Rattle.flagops_shell.specs.Diagnostic.{RemarksOf}
use Rattle.flagops_shell.specs.Ending as shell
use Rattle.flagops_shell.specs.Given as given
use Rattle.flagops_shell.specs.Outcomes as outcomes
use Rattle.flagops_shell.specs.declared.refused.Refused as refusals
use Rattle.flagops_files.specs.Refusal as files
use Rattle.flagops_files.specs.Told as told
use Rattle.flagops_files.specs.declared.refusal.Call.{Call}
use Rattle.flagops_checks.specs.declared.refusal.CheckCall.{CheckCall}
use Rattle.flagops_checks.specs.declared.refusal.CheckCall.TheVariants as call
use Rattle.flagops_checks.specs.declared.refusal.CheckRefusal.{CheckRefusal}
use Rattle.flagops_checks.specs.declared.refusal.CheckRefusal.TheVariants.{Load, WantOfMemory}

abbrev pub call_name : CheckCall → List ℕ
call_name (call.Load c) = files.call_name c
call_name call.Check = codes "check"

-- the call that refused
abbrev pub call_of : CheckRefusal → CheckCall
call_of (Load e) = call.Load (files.call_of e)
call_of WantOfMemory = call.Check

-- memory ran out
abbrev pub is_want : CheckRefusal → Bool
is_want (Load e) = files.is_want e
is_want WantOfMemory = true

-- a file could not be read
abbrev pub is_unread : CheckRefusal → Bool
is_unread (Load e) = files.is_unread e
is_unread WantOfMemory = false

abbrev pub line_of : CheckRefusal → List ℕ
line_of (Load e) = files.line_of e
line_of WantOfMemory = want_line_of (codes "check")

-- ---- by the type of these refusals

-- a refusal with what is told of it
abbrev pub Refused : Type 0
Refused = refusals.Refused CheckRefusal

-- what a command may come to
abbrev pub Outcomes : Type 1
Outcomes = outcomes.Outcomes CheckRefusal

-- a remark on what a command comes to says this of it
abbrev pub Remarks : Type 1
Remarks = RemarksOf CheckRefusal

-- What was returned, seen by `seen`, is one of these, unless memory ran out.
abbrev pub GivesOne : {X Y : Type 0} → (X → Y) → Result X Refused → (Result Y CheckRefusal → Type 0) → Type 0
GivesOne seen r Wanted = given.GivesOne is_want seen r Wanted

-- What was returned, seen by `seen`, is what the definition gives, unless memory ran out.
abbrev pub GivesUnlessWant : {X Y : Type 0} → (X → Y) → Result X Refused → Result Y CheckRefusal → Type 0
GivesUnlessWant seen r wanted = given.GivesUnlessWant is_want seen r wanted

-- a refusal comes from one of these calls
abbrev pub ComesFrom : {X : Type 0} → (CheckCall → Bool) → Result X Refused → Type 0
ComesFrom calls r = outcomes.ComesFrom call_of calls r

abbrev pub is_file_fault : {X : Type 0} → Result X Refused → Bool
is_file_fault r = shell.is_file_fault is_unread r

-- what is attempted in turn
abbrev pub Attempts : Type 1
Attempts = List (told.Attempt CheckRefusal)

-- a refusal is told by the name of what is refused
abbrev pub TellsOf : {X : Type 0} → told.Subject → Result X Refused → Type 0
TellsOf subject r = told.TellsOf is_want subject r

-- a refusal is told by the name of what the first of them is about that is refused
abbrev pub TellsOfFirst : {X : Type 0} → Attempts → Result X Refused → Type 0
TellsOfFirst attempts r = told.TellsOfFirst is_want attempts r

-- these calls, by which files are read or written
abbrev pub loads : (Call → Bool) → CheckCall → Bool
loads calls (call.Load c) = calls c
loads calls c = false

-- those of a document
abbrev pub loads_flags : CheckCall → Bool
loads_flags c = loads files.loads_flags c
