-- Why a file is not read or written, and the line that a refusal is written as.
use Rattle.std.specs.Prelude.{ℕ, Bool, true, false, List, [], ◌++◌, codes, decimal, Result}
use Rattle.flag_text.specs.Fault as texts
use Rattle.flag_text.specs.declared.fault.TextFault.TheVariants as text
use Rattle.bucket_core.specs.Fault as rules
use Rattle.bucket_core.specs.declared.fault.RuleFault.TheVariants as rule
use Rattle.book_core.specs.Fault as books
use Rattle.book_core.specs.declared.fault.BookFileFault.TheVariants as book
use Rattle.flag_defs.specs.Fault as documents
use Rattle.flag_defs.specs.declared.fault.DefFault.TheVariants as document
use Rattle.plan_text.specs.Fault as plan_files
use Rattle.plan_text.specs.declared.fault.PlanFileFault.TheVariants as plan
use Rattle.note_tallies.specs.declared.file_fault.TallyFileFault.TheVariants as tally
use Rattle.flagops_shell.specs.Files.{load_number, load_name, store_number, store_name}
use Rattle.flagops_shell.specs.Ending as shell
use Rattle.flagops_shell.specs.Given as given
use Rattle.flagops_shell.specs.Outcomes as outcomes
use Rattle.flagops_shell.specs.Report.{want_line_of}
use Rattle.flagops_shell.specs.declared.files.LoadFault.TheVariants as load
use Rattle.flagops_shell.specs.declared.files.StoreFault.TheVariants as store
use Rattle.flagops_shell.specs.declared.refused.Refused as refusals
use Rattle.flagops_files.specs.Payload.{file_items, tally_items}
use Rattle.flagops_files.specs.Tallies as tallies
use Rattle.flagops_files.specs.Told as told
use Rattle.flagops_files.specs.declared.refusal.Call.{Call}
use Rattle.flagops_files.specs.declared.refusal.Call.TheVariants as call
use Rattle.flagops_files.specs.declared.refusal.Refusal.{Refusal}
use Rattle.flagops_files.specs.declared.refusal.Refusal.TheVariants.{WantOfMemory, Load, LongBook, ReadTree, ReadRule, ReadFlags, ReadBook, ReadTally, ReadPlanned, Store}

abbrev pub call_name : Call → List ℕ
call_name call.Load = codes "load"
call_name call.ReadTree = codes "read_tree"
call_name call.ReadRule = codes "read_rule"
call_name call.ReadFlags = codes "read_flags"
call_name call.ReadBook = codes "read_book"
call_name call.ReadTally = codes "read_tally"
call_name call.ReadPlanned = codes "read_planned"
call_name call.Store = codes "store"

-- the call that loading the bytes of a file makes
abbrev pub loads_file : Call → Bool
loads_file call.Load = true
loads_file c = false

-- the calls that loading a tree makes
abbrev pub loads_tree : Call → Bool
loads_tree call.Load = true
loads_tree call.ReadTree = true
loads_tree c = false

-- the calls that loading a rule makes
abbrev pub loads_rule : Call → Bool
loads_rule call.ReadRule = true
loads_rule c = loads_tree c

-- the call that reading a flag document makes
abbrev pub reads_flags : Call → Bool
reads_flags call.ReadFlags = true
reads_flags c = false

-- the calls that loading a flag document makes
abbrev pub loads_flags : Call → Bool
loads_flags call.Load = true
loads_flags call.ReadFlags = true
loads_flags c = false

-- the calls that loading a book makes
abbrev pub loads_book : Call → Bool
loads_book call.Load = true
loads_book call.ReadBook = true
loads_book c = false

-- the calls that loading what was recorded makes
abbrev pub loads_evidence : Call → Bool
loads_evidence call.ReadTally = true
loads_evidence c = loads_book c

-- the calls that loading what a rollout is asked over makes, where it is a book
abbrev pub loads_book_question : Call → Bool
loads_book_question call.ReadBook = true
loads_book_question c = loads_flags c

-- the same, where it may be a tally
abbrev pub loads_question : Call → Bool
loads_question call.ReadTally = true
loads_question c = loads_book_question c

-- the calls that loading a plan file makes
abbrev pub loads_plan : Call → Bool
loads_plan call.Load = true
loads_plan call.ReadPlanned = true
loads_plan c = false

-- the call that refused
abbrev pub call_of : Refusal → Call
call_of (WantOfMemory c) = c
call_of (Load e) = call.Load
call_of LongBook = call.Load
call_of (ReadTree e) = call.ReadTree
call_of (ReadRule e) = call.ReadRule
call_of (ReadFlags e) = call.ReadFlags
call_of (ReadBook e) = call.ReadBook
call_of (ReadTally e) = call.ReadTally
call_of (ReadPlanned e) = call.ReadPlanned
call_of (Store e) = call.Store

-- the number and the name of its fault
abbrev pub number_of : Refusal → ℕ
number_of (WantOfMemory c) = 0
number_of (Load e) = load_number e
number_of LongBook = load_number load.Unreadable
number_of (ReadTree e) = texts.number_of e
number_of (ReadRule e) = rules.number_of e
number_of (ReadFlags e) = documents.number_of e
number_of (ReadBook e) = books.file_number_of e
number_of (ReadTally e) = tallies.number_of e
number_of (ReadPlanned e) = plan_files.number_of e
number_of (Store e) = store_number e

abbrev pub name_of : Refusal → List ℕ
name_of (WantOfMemory c) = codes "WantOfMemory"
name_of (Load e) = load_name e
name_of LongBook = load_name load.Unreadable
name_of (ReadTree e) = texts.name_of e
name_of (ReadRule e) = rules.name_of e
name_of (ReadFlags e) = documents.name_of e
name_of (ReadBook e) = books.file_name_of e
name_of (ReadTally e) = tallies.name_of e
name_of (ReadPlanned e) = plan_files.name_of e
name_of (Store e) = store_name e

-- what a fault says beyond its name, each item behind a blank
abbrev pub payload_of : Refusal → List ℕ
payload_of (ReadBook e) = file_items e
payload_of (ReadTally e) = tally_items e
payload_of r = []

-- memory ran out
abbrev pub is_want : Refusal → Bool
is_want (WantOfMemory c) = true
is_want (Load load.WantOfMemory) = true
is_want (ReadTree text.WantOfMemory) = true
is_want (ReadRule rule.WantOfMemory) = true
is_want (ReadFlags document.WantOfMemory) = true
is_want (ReadBook book.WantOfMemory) = true
is_want (ReadTally tally.WantOfMemory) = true
is_want (ReadPlanned plan.WantOfMemory) = true
is_want (Store store.WantOfMemory) = true
is_want r = false

-- `refused`, the call, the number, the name and the payload, separated by blanks
abbrev pub line_with : List ℕ → List ℕ → List ℕ → List ℕ → List ℕ
line_with call number name payload = codes "refused " ++ (call ++ (codes " " ++ (number ++ (codes " " ++ (name ++ (payload ++ codes "\n"))))))

unfoldable pub line_of : Refusal → List ℕ
line_of r = line_with (call_name (call_of r)) (decimal (number_of r)) (name_of r) (payload_of r)

unfoldable pub want_line : Call → List ℕ
want_line c = want_line_of (call_name c)

-- a refusal of one of these calls, with what is told of it
abbrev pub Refused : Type 0
Refused = refusals.Refused Refusal

-- What was returned, seen by `seen`, is one of these, unless memory ran out.
abbrev pub GivesOne : {X Y : Type 0} → (X → Y) → Result X Refused → (Result Y Refusal → Type 0) → Type 0
GivesOne seen r Wanted = given.GivesOne is_want seen r Wanted

-- What was returned, seen by `seen`, is what the definition gives, unless memory ran out.
abbrev pub GivesUnlessWant : {X Y : Type 0} → (X → Y) → Result X Refused → Result Y Refusal → Type 0
GivesUnlessWant seen r wanted = given.GivesUnlessWant is_want seen r wanted

-- a refusal comes from one of these calls
abbrev pub ComesFrom : {X : Type 0} → (Call → Bool) → Result X Refused → Type 0
ComesFrom calls r = outcomes.ComesFrom call_of calls r

-- the refusals of these calls
abbrev pub by : (Call → Bool) → Refusal → Bool
by calls e = calls (call_of e)

-- what may be refused, each with the refusals that are of it
abbrev pub Subjects : Type 0
Subjects = told.Subjects Refusal

-- a refusal is told by the name of what is refused
abbrev pub TellsOf : {X : Type 0} → told.Subject → Result X Refused → Type 0
TellsOf subject r = told.TellsOf is_want subject r

-- a refusal is told by the name of one of them
abbrev pub TellsOfOne : {X : Type 0} → Subjects → Result X Refused → Type 0
TellsOfOne subjects r = told.TellsOfOne is_want subjects r

-- what is attempted in turn
abbrev pub Attempts : Type 1
Attempts = List (told.Attempt Refusal)

-- a refusal is told by the name of what the first of them is about that is refused
abbrev pub TellsOfFirst : {X : Type 0} → Attempts → Result X Refused → Type 0
TellsOfFirst attempts r = told.TellsOfFirst is_want attempts r

-- a file could not be read or written
abbrev pub is_unread : Refusal → Bool
is_unread (Load load.Unreadable) = true
is_unread (Store store.Unwritable) = true
is_unread r = false

abbrev pub is_file_fault : {X : Type 0} → Result X Refused → Bool
is_file_fault r = shell.is_file_fault is_unread r

abbrev pub unreadable : Refusal
unreadable = Load load.Unreadable

abbrev pub unwritable : Refusal
unwritable = Store store.Unwritable

-- the call that writing a file makes
abbrev pub stores_file : Call → Bool
stores_file call.Store = true
stores_file c = false
