-- What a command on steps writes and ends with.
use Rattle.std.specs.Prelude.{Bool, Result}
use Rattle.flagops_shell.specs.Ending as ending
use Rattle.flagops_shell.specs.Given as given
use Rattle.flagops_shell.specs.Report.{Report}
use Rattle.flagops_shell.specs.declared.refused.Refused.{Refused}
use Rattle.flagops_ramps.specs.Refusal.{is_unread, is_want}
use Rattle.flagops_ramps.specs.declared.refusal.RampRefusal.{RampRefusal}

-- what a command may come to
abbrev pub Came : Type 0
Came = Result Report RampRefusal

-- a refusal with what is told of it
abbrev pub Told : Type 0
Told = Refused RampRefusal

-- what was returned, seen by `seen`, is one of these, unless memory ran out
abbrev pub GivesOne : {X Y : Type 0} → (X → Y) → Result X Told → (Result Y RampRefusal → Type 0) → Type 0
GivesOne seen r Wanted = given.GivesOne is_want seen r Wanted

-- what was returned, seen by `seen`, is what the definition gives, unless memory ran out
abbrev pub GivesUnlessWant : {X Y : Type 0} → (X → Y) → Result X Told → Result Y RampRefusal → Type 0
GivesUnlessWant seen r wanted = given.GivesUnlessWant is_want seen r wanted

-- a file could not be read
abbrev pub is_file_fault : {X : Type 0} → Result X Told → Bool
is_file_fault r = ending.is_file_fault is_unread r
