-- Why a listed command is refused, and the line that a refusal is written as.
use Rattle.std.specs.Prelude.{ℕ, Bool, true, false, List, [], codes, decimal, Result}
use Rattle.book_core.specs.Fault as books
use Rattle.book_core.specs.declared.fault.BookFault.TheVariants as book
use Rattle.book_share.specs.declared.drive_fault.DriveFault.TheVariants as sharing
use Rattle.flag_text.specs.declared.fault.TextFault.{TextFault}
use Rattle.flagops_drive.specs.Fault as drives
use Rattle.flagops_drive.specs.declared.fault.DriveRefusal.TheVariants as drive
use Rattle.price_core.specs.Fault as requests
use Rattle.price_core.specs.declared.fault.PriceFault.TheVariants as price
use Rattle.flagops_shell.specs.Diagnostic.{RemarksOf}
use Rattle.flagops_shell.specs.Ending as shell
use Rattle.flagops_shell.specs.Given as given
use Rattle.flagops_shell.specs.Outcomes as outcomes
use Rattle.flagops_shell.specs.declared.refused.Refused as refusals
use Rattle.flagops_files.specs.Payload.{number_item}
use Rattle.flagops_files.specs.Refusal as files
use Rattle.flagops_files.specs.Refusal.{line_with}
use Rattle.flagops_files.specs.Told as told
use Rattle.flagops_files.specs.declared.refusal.Call.{Call}
use Rattle.flagops_files.specs.declared.refusal.Refusal.TheVariants as file
use Rattle.flagops_rollouts.specs.Refusal as rollouts
use Rattle.flagops_rollouts.specs.Refusal.{doubt_name, doubt_number}
use Rattle.flagops_rollouts.specs.declared.refusal.RolloutCall.{RolloutCall}
use Rattle.flagops_commands.specs.declared.refusal.ListedCall.{ListedCall}
use Rattle.flagops_commands.specs.declared.refusal.ListedCall.TheVariants as call
use Rattle.flagops_commands.specs.declared.refusal.ListedRefusal.{ListedRefusal}
use Rattle.flagops_commands.specs.declared.refusal.ListedRefusal.TheVariants.{Load, Rollout, WantOfMemory, ReadRequest, Note, Price, Drive, Doubted, WouldLose}
use Rattle.flagops_commands.specs.declared.refusal.PriceMismatch.{PriceMismatch}
use Rattle.flagops_commands.specs.declared.refusal.PriceMismatch.TheVariants.{Weight, BadKeys}

abbrev pub call_name : ListedCall → List ℕ
call_name (call.Load c) = files.call_name c
call_name (call.Rollout c) = rollouts.call_name c
call_name call.Flagops = codes "flagops"
call_name call.Bucket = codes "bucket"
call_name call.ReadRequest = codes "Request::read"
call_name call.Note = codes "note"
call_name call.Price = codes "price"
call_name call.Resolve = codes "resolve"
call_name call.Drive = codes "drive"

-- the call that refused
abbrev pub call_of : ListedRefusal → ListedCall
call_of (Load e) = call.Load (files.call_of e)
call_of (Rollout e) = call.Rollout (rollouts.call_of e)
call_of (WantOfMemory c) = c
call_of (ReadRequest e) = call.ReadRequest
call_of (Note e) = call.Note
call_of (Price e) = call.Price
call_of (Drive e) = call.Drive
call_of (Doubted d) = call.Drive
call_of (WouldLose n) = call.Drive

-- memory ran out
abbrev pub is_want : ListedRefusal → Bool
is_want (Load e) = files.is_want e
is_want (Rollout e) = rollouts.is_want e
is_want (WantOfMemory c) = true
is_want (ReadRequest price.WantOfMemory) = true
is_want (Note book.WantOfMemory) = true
is_want (Drive (drive.Drive sharing.WantOfMemory)) = true
is_want r = false

-- a file could not be read or written
abbrev pub is_unread : ListedRefusal → Bool
is_unread (Load e) = files.is_unread e
is_unread (Rollout e) = rollouts.is_unread e
is_unread r = false

abbrev pub unwritable : ListedRefusal
unwritable = Load files.unwritable

-- a text that is no tree
abbrev pub no_tree : TextFault → ListedRefusal
no_tree e = Load (file.ReadTree e)

-- ---- the line

-- the number and the name of what the command `price` refuses
abbrev pub mismatch_number : PriceMismatch → ℕ
mismatch_number Weight = 1
mismatch_number BadKeys = 2

abbrev pub mismatch_name : PriceMismatch → List ℕ
mismatch_name Weight = codes "Weight"
mismatch_name BadKeys = codes "BadKeys"

-- so many inputs of a book would be lost
abbrev pub loss_line : ℕ → List ℕ
loss_line lost = line_with (codes "drive") (decimal 7) (codes "WouldLose") (number_item lost)

-- `refused`, the call, the number and the name, and of a loss how many inputs it is
abbrev pub line_of : ListedRefusal → List ℕ
line_of (Load e) = files.line_of e
line_of (Rollout e) = rollouts.line_of e
line_of (WantOfMemory c) = line_with (call_name c) (decimal 0) (codes "WantOfMemory") []
line_of (ReadRequest e) = line_with (codes "Request::read") (decimal (requests.number_of e)) (requests.name_of e) []
line_of (Note e) = line_with (codes "note") (decimal (books.number_of e)) (books.name_of e) []
line_of (Price e) = line_with (codes "price") (decimal (mismatch_number e)) (mismatch_name e) []
line_of (Drive e) = line_with (codes "drive") (decimal (drives.number_of e)) (drives.name_of e) []
line_of (Doubted d) = line_with (codes "drive") (decimal (doubt_number d)) (doubt_name d) []
line_of (WouldLose lost) = loss_line lost

-- ---- by the type of these refusals

-- a refusal with what is told of it
abbrev pub Refused : Type 0
Refused = refusals.Refused ListedRefusal

-- what a command may come to
abbrev pub Outcomes : Type 1
Outcomes = outcomes.Outcomes ListedRefusal

-- a remark on what a command comes to says this of it
abbrev pub Remarks : Type 1
Remarks = RemarksOf ListedRefusal

-- What was returned, seen by `seen`, is one of these, unless memory ran out.
abbrev pub GivesOne : {X Y : Type 0} → (X → Y) → Result X Refused → (Result Y ListedRefusal → Type 0) → Type 0
GivesOne seen r Wanted = given.GivesOne is_want seen r Wanted

-- What was returned, seen by `seen`, is what the definition gives, unless memory ran out.
abbrev pub GivesUnlessWant : {X Y : Type 0} → (X → Y) → Result X Refused → Result Y ListedRefusal → Type 0
GivesUnlessWant seen r wanted = given.GivesUnlessWant is_want seen r wanted

-- a refusal comes from one of these calls
abbrev pub ComesFrom : {X : Type 0} → (ListedCall → Bool) → Result X Refused → Type 0
ComesFrom calls r = outcomes.ComesFrom call_of calls r

abbrev pub is_file_fault : {X : Type 0} → Result X Refused → Bool
is_file_fault r = shell.is_file_fault is_unread r

-- the refusals of these calls
abbrev pub by : (ListedCall → Bool) → ListedRefusal → Bool
by calls e = calls (call_of e)

-- what may be refused, each with the refusals that are of it
abbrev pub Subjects : Type 0
Subjects = told.Subjects ListedRefusal

-- a refusal is told by the name of what is refused
abbrev pub TellsOf : {X : Type 0} → told.Subject → Result X Refused → Type 0
TellsOf subject r = told.TellsOf is_want subject r

-- a refusal is told by the name of one of them
abbrev pub TellsOfOne : {X : Type 0} → Subjects → Result X Refused → Type 0
TellsOfOne subjects r = told.TellsOfOne is_want subjects r

-- these calls, by which files are read or written
abbrev pub loads : (Call → Bool) → ListedCall → Bool
loads calls (call.Load c) = calls c
loads calls c = false

-- those of bytes, of a tree, of a rule, of a document and of a book
abbrev pub loads_file : ListedCall → Bool
loads_file c = loads files.loads_file c

abbrev pub loads_tree : ListedCall → Bool
loads_tree c = loads files.loads_tree c

abbrev pub loads_rule : ListedCall → Bool
loads_rule c = loads files.loads_rule c

abbrev pub loads_flags : ListedCall → Bool
loads_flags c = loads files.loads_flags c

abbrev pub loads_book : ListedCall → Bool
loads_book c = loads files.loads_book c

-- the call that writing a file makes
abbrev pub stores_file : ListedCall → Bool
stores_file c = loads files.stores_file c

-- ---- of rollouts

-- the calls of a command on rollouts
abbrev pub rolls : (RolloutCall → Bool) → ListedCall → Bool
rolls calls (call.Rollout c) = calls c
rolls calls c = false
