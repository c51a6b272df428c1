-- What a filter comes to.
use Rattle.std.specs.Prelude.{Bool, Result}
use Rattle.flagops_shell.specs.Ending as ending
use Rattle.flagops_shell.specs.Given as given
use Rattle.flagops_shell.specs.Report.{Report, outcome_view}
use Rattle.flagops_shell.specs.declared.outcome.Outcome.{Outcome}
use Rattle.flagops_shell.specs.declared.refused.Refused.{Refused}
use Rattle.flagops_filters.specs.Refusal.{is_unread, is_want}
use Rattle.flagops_filters.specs.declared.refusal.FilterRefusal.{FilterRefusal}

-- what a filter may come to
abbrev pub Came : Type 0
Came = Result Report FilterRefusal

-- a refusal with what is told of it
abbrev pub Told : Type 0
Told = Refused FilterRefusal

-- what was returned is one of these, unless memory ran out
abbrev pub GivesOne : Result Outcome Told → (Came → Type 0) → Type 0
GivesOne r Wanted = given.GivesOne is_want outcome_view r Wanted

-- a file could not be read
abbrev pub is_file_fault : {X : Type 0} → Result X Told → Bool
is_file_fault r = ending.is_file_fault is_unread r
